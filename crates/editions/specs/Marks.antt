-- The tracks whose graphs a batch may change; this project's profile.
use Rattle.std.specs.Prelude.{◌≡◌, ℕ, ◌<◌, ◌&&◌, not, Bool, true, false, if◌then◌else◌, List, [], length, slice_get, slice_index_or, Option, None, Some}
use Rattle.std.specs.Option.{option_map_or}
use Rattle.std.specs.Str.{bytes_eq}
use Rattle.catalogue.specs.Lookups.{cohorts_at}
use Rattle.catalogue.specs.declared.content.App.{App}
use Rattle.catalogue.specs.declared.content.Cohort.{Cohort}
use Rattle.catalogue.specs.declared.edit.Edit.{Edit}
use Rattle.catalogue.specs.Histories.{changes_releases_of}

-- the cohorts before a batch of an app whose releases and differentials no edit of it changes; none of another app
abbrev pub cohorts_left : List App → List Edit → ℕ → List Cohort
cohorts_left apps batch index =
    option_map_or (λ app. if changes_releases_of batch app.id then [] else app.cohorts) (slice_get apps index) []

-- two flags are equal
abbrev pub same_flag : Bool → Bool → Bool
same_flag true on = on
same_flag false on = not on

-- two targets are equal
abbrev pub same_target : Option (List ℕ) → Option (List ℕ) → Bool
same_target None None = true
same_target (Some left) (Some right) = bytes_eq left right
same_target None (Some right) = false
same_target (Some left) None = false

-- two cohorts are equal but for their shares and their open flags
abbrev pub same_cohort : Cohort → Cohort → Bool
same_cohort left right =
    bytes_eq left.name right.name
    && (same_flag left.rollback right.rollback && (same_target left.target right.target && same_target left.held right.held))

-- rule: Tracks that a batch may change
-- a cohort at an index may have changed: it is new, or another but for its share and its open flag
abbrev pub may_change : List Cohort → ℕ → Cohort → Bool
may_change before index cohort = option_map_or (λ old. not (same_cohort old cohort)) (slice_get before index) true

-- each item has a fact, by its index
pub record AreEach {A : Type 0} (P : ℕ → A → Type 0) (count : ℕ) (items : List A) : Type 0 where
  pub sized : length items ≡ count
  pub each : (index : ℕ) (d : A) → index < count → P index (slice_index_or items index d)

-- a mark says whether a cohort may have changed
abbrev pub IsMark : List Cohort → List Cohort → ℕ → Bool → Type 0
IsMark before made index mark = (d : Cohort) → mark ≡ may_change before index (slice_index_or made index d)

-- the marks of the cohorts of an app that a batch leads to
abbrev pub AreMarksOf : List App → List Edit → List App → ℕ → List Bool → Type 0
AreMarksOf apps batch made app marks =
    AreEach (IsMark (cohorts_left apps batch app) (cohorts_at made app)) (length (cohorts_at made app)) marks
