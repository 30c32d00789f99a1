-- What is known of the bytes that a device gives or takes; this project's profile.
use Rattle.std.specs.Prelude.{◌≡◌, ℕ, List, ◌++◌, length, Option, Result, MatchResult}
use Rattle.std.specs.Io.KnownBytes.{Consumes, Keeps, IsAtEnd}

-- some bytes were read after those that waited; with none, the input has ended
pub record Given (old new : Option (List ℕ)) (before after : List ℕ) (count : ℕ) : Type 0 where
  pub bytes : List ℕ
  pub consumed : Consumes old new bytes
  pub behind : after ≡ before ++ bytes
  pub long : length bytes ≡ count
  pub ended : count ≡ 0 → IsAtEnd new

-- one read; after a failure all is as it was
abbrev pub Fills : {E : Type 0} → Option (List ℕ) → Option (List ℕ) → List ℕ → List ℕ → Result ℕ E → Type 0
Fills old new before after result =
    MatchResult result (Given old new before after) (λ _. Keeps old new × (after ≡ before))

-- some bytes were read, after those that waited
pub record Came (old new : Option (List ℕ)) (before after : List ℕ) : Type 0 where
  pub bytes : List ℕ
  pub consumed : Consumes old new bytes
  pub behind : after ≡ before ++ bytes
