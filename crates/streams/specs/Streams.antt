-- What a contract knows of a stream or a file; this project's profile.
use Rattle.std.specs.Prelude.{ℕ, Bool, List, Option}

-- The bytes that a reader has left, a writer holds or a file has, if they are known; and whether it
-- failed. Only a call that fails gives the second: code over any reader or writer can't make it up.
pub record Known : Type 0 where
  pub bytes : Option (List ℕ)
  pub failed : Bool
