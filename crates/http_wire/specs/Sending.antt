-- What sending leaves in a sink; this project's profile.
use Rattle.std.specs.Prelude.{◌≡◌, ◌<◌, ℕ, List, ◌++◌, length, flat_map, Option, Result, MatchResult}
use Rattle.std.specs.Borrow.{Bor}
use Rattle.std.specs.Io.KnownBytes.{Appends}

-- known bytes grow by a first part of the string, which is not all of it
abbrev pub AppendsPart : Option (List ℕ) → Option (List ℕ) → List ℕ → Type 0
AppendsPart old new text =
    (sent : List ℕ) × (rest : List ℕ) × (text ≡ sent ++ rest) × (0 < length rest) × Appends old new sent

-- rule: Sending whole
-- all of the string was written, or a failure left a first part
abbrev pub Sends : {A E : Type 0} → Option (List ℕ) → Option (List ℕ) → List ℕ → Result A E → Type 0
Sends old new text result = MatchResult result (λ _. Appends old new text) (λ _. AppendsPart old new text)

-- the strings one after the other
abbrev pub joined : List (Bor (List ℕ)) → List ℕ
joined texts = flat_map (λ text. text.now) texts
