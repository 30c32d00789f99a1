-- A body of a known length after a head (RFC 9112, section 6.3).
use Rattle.std.specs.Prelude.{◌≡◌, ◌<◌, ℕ, List, [], ◌++◌, length, Bool, true, false, Option, Result, Ok, Err}
use Rattle.std.specs.Io.KnownBytes.{Consumes, IsAtEnd}
use Rattle.values.specs.declared.failed.Failed.{Failed}

-- rule: Body of a request
-- the bytes begin with the body, and the others wait; or there are fewer, and none waits
abbrev pub Holds : Option (List ℕ) → List ℕ → List ℕ → List ℕ → Result Bool Failed → Type 0
Holds left bytes waiting body (Ok true) = bytes ≡ body ++ waiting
Holds left bytes waiting body (Ok false) = (length bytes < length body) × (waiting ≡ []) × IsAtEnd left
Holds left bytes waiting body (Err failed) = (length bytes < length body) × (waiting ≡ [])

-- what was read after the bytes that waited
pub record BodyFound
    (old new : Option (List ℕ)) (before after body : List ℕ) (result : Result Bool Failed)
    : Type 0 where
  pub bytes : List ℕ
  pub consumed : Consumes old new bytes
  pub holds : Holds new (before ++ bytes) after body result
