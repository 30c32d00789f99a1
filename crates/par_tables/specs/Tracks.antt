-- The tracks of a catalogue, in order; this project's profile. Apps and cohorts are given by index, in
-- the order of addition.
use Rattle.std.specs.Prelude.{ℕ, ◌+◌, true, false, if◌then◌else◌, List, [], ◌∷◌, ◌++◌}
use Rattle.catalogue.specs.declared.content.App.{App}
use Rattle.catalogue.specs.declared.content.Cohort.{Cohort}
use Rattle.cohorts.specs.declared.pin.Pin.TheVariants as pin
use Rattle.cohorts.specs.declared.track.Lane.{Lane}
use Rattle.cohorts.specs.declared.track.Lane.TheVariants.{Target, Held}
use Rattle.payload_graph.specs.declared.payload.TrackKey.{TrackKey}

-- each item's list, made with its index, joined
abbrev pub joined_from : {A B : Type 0} → (ℕ → A → List B) → ℕ → List A → List B
joined_from f index [] = []
joined_from f index (item ∷ items) = f index item ++ joined_from f (index + 1) items

-- the keys of a lane: of the clients that allow no downgrade, and of the others if the cohort allows one; none of
-- them has a pin
abbrev pub lane_keys : ℕ → ℕ → Cohort → Lane → List TrackKey
lane_keys app index cohort lane =
    record { app = app; cohort = index; lane = lane; rollback = false; pin = pin.Any }
    ∷ (if cohort.rollback then record { app = app; cohort = index; lane = lane; rollback = true; pin = pin.Any } ∷ [] else [])

-- the keys of a cohort: of its target, then of its held target
abbrev pub cohort_keys : ℕ → ℕ → Cohort → List TrackKey
cohort_keys app index cohort = lane_keys app index cohort Target ++ lane_keys app index cohort Held

-- the keys of an app: of each cohort in turn
abbrev pub app_keys : ℕ → App → List TrackKey
app_keys index app = joined_from (cohort_keys index) 0 app.cohorts

-- rule: Order of tracks
-- the keys of all tracks, of each app in turn
abbrev pub keys_of : List App → List TrackKey
keys_of apps = joined_from app_keys 0 apps
