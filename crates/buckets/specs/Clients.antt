-- The cohorts that one client may be in before a change and after it; this project's profile.
use Rattle.std.specs.Prelude.{◌≡◌, ℕ, ◌==◌, ◌&&◌, ◌||◌, not, Bool, true, false, ◌≤◌, ◌<◌, List, length}
use Rattle.std.specs.List.{list_any}
use Rattle.buckets.specs.Buckets.{is_cut_off, parts_of}
use Rattle.buckets.specs.declared.change.Span.{Span}
use Rattle.catalogue.specs.Lookups.{cohorts_at}
use Rattle.catalogue.specs.declared.content.App.{App}
use Rattle.catalogue.specs.declared.content.Cohort.{Cohort}
use Rattle.cohorts.specs.Tracks.{cohort_at}

-- hints lead to the cohort at an index after a change, and didn't before it
abbrev pub is_opened : List Cohort → List Cohort → ℕ → Bool
is_opened before after index = (cohort_at after index).hintable && not (cohort_at before index).hintable

-- rule: Cohorts of a client
-- a client may be in one cohort before a change and in another after it: if they are the same; if the other was opened to
-- hints; or if the one was closed to them
abbrev pub may_move : List Cohort → List Cohort → ℕ → ℕ → Bool
may_move before after one other = one == other || (is_opened before after other || is_opened after before one)

-- some part of the buckets is cut off
abbrev pub has_cut_off : Cohort → Cohort → Bool
has_cut_off before after = list_any (λ (span : Span). is_cut_off before after span.start) (parts_of before after)

-- no client is cut off that may be in the one before a change and in the other after it
abbrev pub keeps_pair : List Cohort → List Cohort → ℕ → ℕ → Bool
keeps_pair before after one other =
    not (may_move before after one other) || not (has_cut_off (cohort_at before one) (cohort_at after other))

-- rule: Nobody is cut off
-- no client is cut off, whichever cohorts it may be in
abbrev pub CutsNobodyOff : List Cohort → List Cohort → Type 0
CutsNobodyOff before after =
    (one other : ℕ) → one < length before → other < length after → keeps_pair before after one other ≡ true

-- a client may be cut off, by two of the cohorts
abbrev pub CutsSomebodyOff : List Cohort → List Cohort → Type 0
CutsSomebodyOff before after =
    (one : ℕ) × (other : ℕ) × (one < length before) × (other < length after) × (keeps_pair before after one other ≡ false)

-- no cohort goes, and each keeps its name and its place
pub record Grows (before after : List Cohort) : Type 0 where
  pub more : length before ≤ length after
  pub named : (index : ℕ) → index < length before → (cohort_at before index).name ≡ (cohort_at after index).name

-- the same of the cohorts of each app of a content
abbrev pub AllGrow : List App → List App → Type 0
AllGrow before after = (app : ℕ) → app < length before → Grows (cohorts_at before app) (cohorts_at after app)
