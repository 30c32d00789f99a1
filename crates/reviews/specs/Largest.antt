-- The largest one of some values of a track's releases; this project's profile.
use Rattle.std.specs.Prelude.{◌≡◌, ℕ, ◌<◌, ◌≤◌, if◌then◌else◌, List, length, nat_le, slice_index_or, Option, None, Some}
use Rattle.reviews.specs.declared.largest.Largest.{Largest}
use Rattle.reviews.specs.declared.outcome.Outcome.{Outcome}
use Rattle.reviews.specs.declared.outcome.Outcome.TheVariants.{Here, Next, Stuck}

-- the least sum from a release that is before a chain
abbrev pub sum_of : Outcome → Option ℕ
sum_of Here = None
sum_of (Next payload sum) = Some sum
sum_of (Stuck reason) = None

-- the value of the release at an index, if it has one
abbrev pub value_at : List (Option ℕ) → ℕ → Option ℕ
value_at values release = slice_index_or values release None

-- the larger one of the largest value so far and the next one, if there is one
abbrev pub larger_of : Option Largest → ℕ → Option ℕ → Option Largest
larger_of best from None = best
larger_of None from (Some value) = Some (record { from = from; value = value })
larger_of (Some known) from (Some value) =
    if nat_le value known.value then Some known else Some (record { from = from; value = value })

-- the largest value of the releases before an index, of the lowest release that has it
pub record IsLargestOf (values : List (Option ℕ)) (count : ℕ) (best : Largest) : Type 0 where
  pub within : best.from < count
  pub is : value_at values best.from ≡ Some best.value
  pub most : (release value : ℕ) → release < count → value_at values release ≡ Some value → value ≤ best.value
  pub lowest : (release value : ℕ) → release < best.from → value_at values release ≡ Some value → value < best.value

-- the same if there is one
abbrev pub IsLargestBefore : List (Option ℕ) → ℕ → Option Largest → Type 0
IsLargestBefore values count None = (release : ℕ) → release < count → value_at values release ≡ None
IsLargestBefore values count (Some best) = IsLargestOf values count best

-- rule: Largest of a track
-- the largest value of a track's releases, with the lowest release that has it; none if no release has a value
abbrev pub IsLargest : List (Option ℕ) → Option Largest → Type 0
IsLargest values best = IsLargestBefore values (length values) best
