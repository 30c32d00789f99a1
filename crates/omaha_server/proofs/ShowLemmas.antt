-- What mirrors granted, one after the other; and what a look at them leaves.
use Rattle.catalogue.specs.Histories.{History}
use Rattle.catalogue.specs.declared.mirror.Mirror.{Mirror}
use Rattle.operator_pages.specs.declared.counts.Counts.{Counts}
use Rattle.operator_pages.specs.declared.publishes.Publish.{Publish}
use Rattle.service_desks.specs.States.{State, Store, earlier_in}
use Rattle.std.proofs.Common.{◌≡◌, ap, refl, sym, Bool, List}
use Rattle.omaha_server.specs.Showing.{IsOverview}
use Rattle.omaha_server.specs.Overviews.{IsUnmoved, overview}
use Rattle.omaha_server.specs.declared.circumstances.Circumstances.{Circumstances}

abbrev pub state_by : History → Store → List Mirror → State
state_by history kept mirrors = record { mirrors = mirrors; history = history; store = kept }

-- a state of the same mirrors
same_state :
    (history : History) (kept : Store) (after before : List Mirror) → after ≡ before →
    state_by history kept after ≡ state_by history kept before
same_state history kept after before same = ap (state_by history kept) same

-- a look leaves the mirrors, so nothing moves
pub unmoved :
    (history : History) (kept : Store) (after before : List Mirror) (counts : Counts) (publishes : List Publish)
    (ending : Bool) → after ≡ before →
    IsUnmoved (overview (state_by history kept before) counts publishes ending)
    (overview (state_by history kept after) counts publishes ending)
unmoved history kept after before counts publishes ending same =
    record { state = same_state history kept after before same; ending = refl }

-- what the operator's thread knows, as an overview
pub is_overview :
    (history : History) (kept : Store) (mirrors : List Mirror) (known : Circumstances) (counts : Counts)
    (publishes : List Publish) (ending : Bool) → known.earlier ≡ earlier_in kept → known.counts ≡ counts →
    known.ending ≡ ending → IsOverview history mirrors publishes known (overview (state_by history kept mirrors) counts publishes ending)
is_overview history kept mirrors known counts publishes ending earlier counted ends = record {
  history_is = refl;
  mirrors_are = refl;
  earlier = sym earlier;
  counts = sym counted;
  publishes = refl;
  ending = sym ends;
}
