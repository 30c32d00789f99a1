-- What holds of all graphs.
use Rattle.std.specs.Prelude.{◌≡◌, ℕ, ◌+◌, ◌<◌, All, true, if◌then◌else◌, List, [], ◌∷◌, ◌++◌, length, map, slice_get, Some}
use Rattle.std.specs.List.{enumerate_from, filter}
use Rattle.values.specs.Ordered.{ascend}
use Rattle.catalogue.specs.Forms.{is_size}
use Rattle.catalogue.specs.Validity.{IsValidApp, is_release_below}
use Rattle.catalogue.specs.declared.content.App.{App}
use Rattle.catalogue.specs.declared.content.Cohort.{Cohort}
use Rattle.catalogue.specs.declared.content.Diff.{Diff}
use Rattle.catalogue.specs.declared.content.Release.{Release}
use Rattle.cohorts.specs.Offers.{track_target}
use Rattle.payload_graph.specs.Permitted.{permits}
use Rattle.payload_graph.specs.declared.payload.Payload.TheVariants.{Full, Differ}
use Rattle.payload_graph.specs.declared.payload.TrackKey.{TrackKey}
use Rattle.payload_graph.specs.declared.place.Place.TheVariants.{At}
use Rattle.payload_graph.specs.Net.{Net, differs_of, doors_of, edge_of, edges_from, edges_into, enters, full, fulls, leaves, net_with, payloads_of, window}
use Rattle.payload_graph.specs.Soundness.{AreNumbered, IsBounded, IsNearing, LeadsNearer, door_at}
use Rattle.payload_graph.specs.declared.door.Door.{Door}
use Rattle.payload_graph.specs.declared.edge.Edge.{Edge}

-- a track of an app whose releases ascend: its cohort, and the release at its target
pub record IsTrack (app : App) (key : TrackKey) (cohort : Cohort) (target : ℕ) (release : Release) : Type 0 where
  pub ascending : ascend is_release_below app.releases ≡ true
  pub cohort_there : slice_get app.cohorts key.cohort ≡ Some cohort
  pub release_there : slice_get app.releases target ≡ Some release
  pub targeted : track_target app.releases cohort key.lane key.pin ≡ Some release.version

-- the full packages from a release, by its window, are those of all releases that are permitted, each
-- once, in order
abbrev pub FullsArePermitted : Type 0
FullsArePermitted =
    (app : App) (key : TrackKey) (cohort : Cohort) (target from : ℕ) (release : Release) (differs : List Edge) →
    IsTrack app key cohort target release →
    from < length app.releases →
    fulls from (window (net_with app key cohort target differs) from)
    ≡ map (full from) (filter (λ (door : Door). permits app key (At from) (Full door.to)) (doors_of cohort key.pin app.releases))

-- the differentials from a release are those of all that are permitted, each once, in order
abbrev pub DiffersArePermitted : Type 0
DiffersArePermitted =
    (app : App) (key : TrackKey) (cohort : Cohort) (target from : ℕ) (release : Release) →
    IsValidApp app →
    IsTrack app key cohort target release →
    from < length app.releases →
    filter (leaves from) (differs_of app cohort key.pin target)
    ≡ map (λ (numbered : ℕ × Diff). edge_of app.releases numbered.1)
    (filter (λ (numbered : ℕ × Diff). permits app key (At from) (Differ numbered.0)) (enumerate_from 0 app.diffs))

-- below the target a window is the next door and, unless that is a stone, the next window
abbrev pub WindowsGrowDown : Type 0
WindowsGrowDown =
    (net : Net) (from : ℕ) →
    net.target < length net.doors →
    from < net.target →
    window net from
    ≡ door_at net (from + 1) ∷ (if (door_at net (from + 1)).stone then [] else window net (from + 1))

-- the target's window is empty
abbrev pub TargetsLeaveNothing : Type 0
TargetsLeaveNothing = (net : Net) → net.target < length net.doors → window net net.target ≡ []

-- above the target a window is that of the release before, and the door of that release, if the track
-- rolls back
abbrev pub WindowsGrowUp : Type 0
WindowsGrowUp =
    (net : Net) (from : ℕ) →
    from < length net.doors →
    net.target < from →
    window net (from + 1) ≡ window net from ++ (if net.rollback then door_at net from ∷ [] else [])

-- a door is the graph's own, at the index that it leads to
pub record IsDoorOf (net : Net) (door : Door) : Type 0 where
  pub there : door.to < length net.doors
  pub own : door_at net door.to ≡ door

-- a window has no doors but the graph's own
abbrev pub WindowsHoldDoors : Type 0
WindowsHoldDoors =
    (net : Net) (from : ℕ) →
    AreNumbered net.doors →
    All (IsDoorOf net) (window net from)

-- a full package leads nearer the target
abbrev pub FullsLeadNearer : Type 0
FullsLeadNearer =
    (net : Net) (from : ℕ) →
    AreNumbered net.doors →
    net.target < length net.doors →
    from < length net.doors →
    All (λ (edge : Edge). LeadsNearer net.target from edge.to) (fulls from (window net from))

-- so does each payload of a graph: no chain comes back to a release
abbrev pub EdgesLeadNearer : Type 0
EdgesLeadNearer =
    (net : Net) (from : ℕ) →
    AreNumbered net.doors →
    All (IsNearing net.target) net.differs →
    net.target < length net.doors →
    from < length net.doors →
    All (λ (edge : Edge). LeadsNearer net.target from edge.to) (edges_from net from)

-- each payload of a graph has a valid size
abbrev pub EdgesAreSized : Type 0
EdgesAreSized =
    (net : Net) (from : ℕ) →
    IsBounded net →
    All (λ (edge : Edge). is_size edge.bytes ≡ true) (edges_from net from)

-- the payloads from a release are those of the graph that leave it, in the same order
abbrev pub EdgesFromAreOfGraph : Type 0
EdgesFromAreOfGraph =
    (net : Net) (from : ℕ) →
    AreNumbered net.doors →
    from < length net.doors →
    filter (leaves from) (payloads_of net) ≡ edges_from net from

-- of the payloads into one release, those from another are the ones from it that lead to the first
abbrev pub EdgesIntoAreEdgesFrom : Type 0
EdgesIntoAreEdgesFrom =
    (net : Net) (from to : ℕ) →
    AreNumbered net.doors →
    from < length net.doors →
    filter (leaves from) (edges_into net to) ≡ filter (enters to) (edges_from net from)
