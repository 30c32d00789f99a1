-- The keys of a cohort name it, and are four at most.
use Rattle.std.proofs.Common.{◌≡◌, ℕ, ◌≤◌, Bool, true, false, cond, List, [], ◌∷◌, length, refl, arith}
use Rattle.std.specs.List.{All}
use Rattle.std.proofs.lemmas.List.{length-append}
use Rattle.std.proofs.lemmas.List.Elements.{All-append, All-cons, All-nil}
use Rattle.catalogue.specs.declared.content.Cohort.{Cohort}
use Rattle.cohorts.specs.declared.pin.Pin.TheVariants as pin
use Rattle.cohorts.specs.declared.track.Lane.{Lane}
use Rattle.cohorts.specs.declared.track.Lane.TheVariants.{Target, Held}
use Rattle.payload_graph.specs.declared.payload.TrackKey.{TrackKey}
use Rattle.par_tables.specs.Tracks.{cohort_keys, lane_keys}

-- a key names a cohort of an app
pub record IsOfCohort (app cohort : ℕ) (key : TrackKey) : Type 0 where
  pub own_app : key.app ≡ app
  pub own_cohort : key.cohort ≡ cohort

abbrev others : ℕ → ℕ → Lane → Bool → List TrackKey
others app index lane rolls = cond rolls (record { app = app; cohort = index; lane = lane; rollback = true; pin = pin.Any } ∷ []) []

All-others : (app index : ℕ) (lane : Lane) (rolls : Bool) → All (IsOfCohort app index) (others app index lane rolls)
All-others app index lane true =
    All-cons (IsOfCohort app index) (record { app = app; cohort = index; lane = lane; rollback = true; pin = pin.Any }) []
    (record { own_app = refl; own_cohort = refl }) (All-nil (IsOfCohort app index))
All-others app index lane false = All-nil (IsOfCohort app index)

length-others : (app index : ℕ) (lane : Lane) (rolls : Bool) → length (others app index lane rolls) ≤ 1
length-others app index lane true = omega arith
length-others app index lane false = omega arith

All-lane_keys : (app index : ℕ) (cohort : Cohort) (lane : Lane) → All (IsOfCohort app index) (lane_keys app index cohort lane)
All-lane_keys app index cohort lane =
    All-cons (IsOfCohort app index) (record { app = app; cohort = index; lane = lane; rollback = false; pin = pin.Any }) (others app index lane cohort.rollback)
    (record { own_app = refl; own_cohort = refl }) (All-others app index lane cohort.rollback)

pub All-cohort_keys : (app index : ℕ) (cohort : Cohort) → All (IsOfCohort app index) (cohort_keys app index cohort)
All-cohort_keys app index cohort =
    All-append (IsOfCohort app index) (lane_keys app index cohort Target) (lane_keys app index cohort Held)
    (All-lane_keys app index cohort Target) (All-lane_keys app index cohort Held)

pub length-cohort_keys : (app index : ℕ) (cohort : Cohort) → length (cohort_keys app index cohort) ≤ 4
length-cohort_keys app index cohort =
    let both = length-append (lane_keys app index cohort Target) (lane_keys app index cohort Held) in
    let first = length-others app index Target cohort.rollback in
    let second = length-others app index Held cohort.rollback in
    omega arith
