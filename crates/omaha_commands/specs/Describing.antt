-- What the command `describe` prints; this project's profile.
use Rattle.std.specs.Prelude.{◌≡◌, ◌⊎◌, ℕ, List, [], ◌∷◌, ◌++◌, Result, Ok, Err}
use Rattle.package_files.specs.Paths.{IsDescribed}
use Rattle.package_files.specs.Storages.{Storage}
use Rattle.package_files.specs.declared.describing.DescribeError.{DescribeError}
use Rattle.profiles.specs.Printing.{Prints}
use Rattle.profiles.specs.Streams.{Streams}
use Rattle.failures.specs.declared.failure.Failure.{Failure}
use Rattle.failures.specs.declared.failure.Failure.TheVariants as failure

-- rule: Descriptions of paths
-- the files are described, one after the other
abbrev pub AreDescribed : Storage → List (List ℕ) → List ℕ → Type 0
AreDescribed storage [] text = text ≡ []
AreDescribed storage (path ∷ paths) text =
    (first : List ℕ) × (later : List ℕ) × IsDescribed storage path (Ok first)
    × (text ≡ first ++ later) × AreDescribed storage paths later

-- the files before one are described, and that one is not
abbrev pub StopsAt : Storage → List (List ℕ) → List ℕ → DescribeError → Type 0
StopsAt storage paths path reason =
    (before : List (List ℕ)) × (after : List (List ℕ)) × (text : List ℕ)
    × (paths ≡ before ++ path ∷ after) × AreDescribed storage before text
    × IsDescribed storage path (Err reason)

-- why there is no description at a path: the reason, or memory ran out
abbrev pub IsFailureAt : List ℕ → DescribeError → Failure → Type 0
IsFailureAt path reason refusal = (refusal ≡ failure.Memory) ⊎ (refusal ≡ failure.Undescribed path reason)

-- the descriptions of the files, or why there are none: the first file that is not described
abbrev pub IsFound : Storage → List (List ℕ) → Result (List ℕ) Failure → Type 0
IsFound storage paths (Ok text) = AreDescribed storage paths text
IsFound storage paths (Err refusal) =
    (refusal ≡ failure.Memory)
    ⊎ ((path : List ℕ) × (reason : DescribeError)
    × (refusal ≡ failure.Undescribed path reason) × StopsAt storage paths path reason)

-- rule: Printed descriptions
-- the descriptions are found, and what was found is printed
pub record PrintsDescriptions (storage : Storage) (paths : List (List ℕ)) (old new : Streams) (result : Result (Unit {0}) Failure) : Type 0 where
  pub found : Result (List ℕ) Failure
  pub is : IsFound storage paths found
  pub printed : Prints found old new result
