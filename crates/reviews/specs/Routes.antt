-- Ways of full packages alone: each release has one, so they lead wherever payloads do.
use Rattle.std.specs.Prelude.{◌≡◌, ℕ, ◌<◌, ◌≤◌, ◌==◌, ◌&&◌, Bool, true, false, List, [], ◌∷◌, length, slice_index_or}
use Rattle.std.specs.List.{list_any}
use Rattle.cohorts.specs.declared.pin.Pin.TheVariants as pin
use Rattle.cohorts.specs.declared.track.Lane.TheVariants as lane
use Rattle.catalogue.specs.declared.content.Cohort.{Cohort}
use Rattle.catalogue.specs.declared.content.Release.{Release}
use Rattle.payload_graph.specs.Net.{Net, door_of, opens, window}
use Rattle.payload_graph.specs.Soundness.{AreNumbered}
use Rattle.payload_graph.specs.declared.door.Door.{Door}
use Rattle.reviews.specs.Lifts.{lifted_cohort, lifted_release, lifted_releases}
use Rattle.reviews.specs.declared.cause.Cause.{Cause}
use Rattle.reviews.specs.declared.roads.Roads.{Roads}

-- a full package leads from the one release to the other
abbrev pub leads : Net → ℕ → ℕ → Bool
leads net from to = list_any (λ (door : Door). opens from door && door.to == to) (window net from)

-- full packages lead from a release by others to the target
abbrev pub IsRoute : Net → ℕ → List ℕ → Type 0
IsRoute net from [] = from ≡ net.target
IsRoute net from (to ∷ more) = (leads net from to ≡ true) × IsRoute net to more

-- a flag says whether there is such a way from a release
abbrev pub IsRouted : Net → ℕ → Bool → Type 0
IsRouted net from true = (route : List ℕ) × IsRoute net from route
IsRouted net from false = (route : List ℕ) → ¬ (IsRoute net from route)

-- the flag of a release
abbrev pub flag_at : List Bool → ℕ → Bool
flag_at flags release = slice_index_or flags release false

-- the flags of the releases from one index on, before another, say so
abbrev pub AreRouted : Net → List Bool → ℕ → ℕ → Type 0
AreRouted net flags low high = (from : ℕ) → low ≤ from → from < high → IsRouted net from (flag_at flags from)

-- a door opens from a release, and leads to a flagged one
abbrev pub leads_to_flag : List Bool → ℕ → Door → Bool
leads_to_flag flags from door = opens from door && flag_at flags door.to

-- the graph of full packages alone, of whatever key
abbrev pub net_of_roads : Roads → Net
net_of_roads roads =
    record {
      key = record { app = 0; cohort = 0; lane = lane.Target; rollback = false; pin = pin.Any };
      target = roads.target;
      rollback = roads.rollback;
      doors = roads.doors.items;
      differs = [];
    }

-- a numbered release as a destination on a track without a rule
abbrev pub lifted_door : Cause → Cohort → List Release → List ℕ → ℕ × Release → Door
lifted_door cause cohort releases target numbered =
    door_of (lifted_cohort cause cohort) pin.Any (lifted_releases cause target releases) numbered.0
    (lifted_release cause target numbered.1)

-- each door leads to its own index, and one of them is the target's
pub record AreRoads (roads : Roads) : Type 0 where
  pub within : roads.target < length roads.doors.items
  pub numbered : AreNumbered roads.doors.items
