-- Histories that were heard; this project's profile.
use Rattle.std.specs.Prelude.{ℕ, ◌≤◌, max, List, [], ◌∷◌, length}
use Rattle.catalogue.specs.Histories.{History}
use Rattle.publisher.specs.Beginnings.{StartsWith}

-- the history begins with each of those that were heard
abbrev pub GoesOn : History → List History → Type 0
GoesOn now [] = Unit {0}
GoesOn now (first ∷ others) = StartsWith now first × GoesOn now others

-- the number of the newest history that was heard
abbrev pub newest : List History → ℕ
newest [] = 0
newest (first ∷ others) = max (length first) (newest others)

-- rule: Meeting of a press and a view
-- of two histories the longer begins with the shorter
abbrev pub IsLinked : History → History → Type 0
IsLinked one other =
    (length one ≤ length other → StartsWith other one) × (length other ≤ length one → StartsWith one other)
