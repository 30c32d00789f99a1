-- What becomes of jobs; this project's profile.
use Rattle.std.specs.Prelude.{◌≡◌, Result, Ok, Err}

-- rule: Jobs of threads
-- a job came to this end; or it did not begin, and is given back
abbrev pub EndsAs : {J E : Type 0} → (J → E → Type 0) → J → Result E J → Type 0
EndsAs comes_to job (Ok end) = comes_to job end
EndsAs comes_to job (Err back) = back ≡ job
