-- The graph of a track: its target, and the payloads that are permitted between the releases of its
-- app. Full packages are given by rule, each release having a window of others to which its clients
-- may be led; this project's profile. Releases are given by index, by ascending version.
use Rattle.std.specs.Prelude.{ℕ, ◌+◌, ◌==◌, ◌&&◌, Bool, if◌then◌else◌, List, [], ◌∷◌, ◌++◌, drop, map, nat_le, nat_lt, slice_get, take, Option, option_and_then, option_map}
use Rattle.std.specs.List.{enumerate_from, filter, flat_map}
use Rattle.std.specs.Option.{option_map_or}
use Rattle.catalogue.specs.Lookups.{place_of}
use Rattle.catalogue.specs.declared.content.App.{App}
use Rattle.catalogue.specs.declared.content.Cohort.{Cohort}
use Rattle.catalogue.specs.declared.content.Diff.{Diff}
use Rattle.catalogue.specs.declared.content.Release.{Release}
use Rattle.cohorts.specs.Offers.{is_offered}
use Rattle.cohorts.specs.declared.pin.Pin.{Pin}
use Rattle.payload_graph.specs.Chains.{cohort_target, index_of}
use Rattle.payload_graph.specs.Permitted.{permits_differ, rolls_back}
use Rattle.payload_graph.specs.declared.payload.TrackKey.{TrackKey}
use Rattle.payload_graph.specs.declared.door.Door.{Door}
use Rattle.payload_graph.specs.declared.edge.Edge.{Edge}
use Rattle.payload_graph.specs.declared.edge.Kind.TheVariants as kind

-- a graph: whose it is, its target, whether it leads down from above, its releases as destinations,
-- and its permitted differentials by ascending origin
pub record Net : Type 0 where
  pub key : TrackKey
  pub target : ℕ
  pub rollback : Bool
  pub doors : List Door
  pub differs : List Edge

-- a release as a destination of the cohort's clients of a pin; its floor becomes the index of the lowest release
-- that meets it, or the number of releases if none does
abbrev pub door_of : Cohort → Pin → List Release → ℕ → Release → Door
door_of cohort pin releases to release =
    record {
      to = to;
      bytes = release.size;
      offered = is_offered cohort pin release;
      stone = release.stone;
      floor = place_of release.floor releases;
    }

-- all releases as destinations, each with its index
abbrev pub doors_of : Cohort → Pin → List Release → List Door
doors_of cohort pin releases =
    map (λ (numbered : ℕ × Release). door_of cohort pin releases numbered.0 numbered.1) (enumerate_from 0 releases)

-- the full package that leads from a release through a door
abbrev pub full : ℕ → Door → Edge
full from door = record { from = from; to = door.to; kind = kind.Full; bytes = door.bytes }

-- a door opens from a release: the destination is offered, and the release isn't below its floor
abbrev pub opens : ℕ → Door → Bool
opens from door = nat_le door.floor from && door.offered

-- the full packages from a release through those doors of a list that open from there
abbrev pub fulls : ℕ → List Door → List Edge
fulls from doors = map (full from) (filter (opens from) doors)

-- the doors up to the first stone, that one included
abbrev pub to_stone : List Door → List Door
to_stone [] = []
to_stone (door ∷ doors) = door ∷ (if door.stone then [] else to_stone doors)

-- the items from one index on, before another
abbrev pub between : {A : Type 0} → ℕ → ℕ → List A → List A
between low high items = drop low (take high items)

-- rule: Window of a release
-- a release's window: at or below the target the doors above it, up to the first stone and not above
-- the target; above the target all doors below it if the track rolls back
abbrev pub window : Net → ℕ → List Door
window net from =
    if nat_lt net.target from
    then (if net.rollback then take from net.doors else [])
    else to_stone (between (from + 1) (net.target + 1) net.doors)

-- the payload leaves the release
abbrev pub leaves : ℕ → Edge → Bool
leaves from edge = from == edge.from

-- the payload leads to the release
abbrev pub enters : ℕ → Edge → Bool
enters to edge = to == edge.to

-- rule: Payloads from a release
-- the payloads that leave a release: full packages by ascending destination, then differentials
abbrev pub edges_from : Net → ℕ → List Edge
edges_from net from = fulls from (window net from) ++ filter (leaves from) net.differs

-- all payloads of a graph: full packages by ascending origin, then differentials by ascending origin
abbrev pub payloads_of : Net → List Edge
payloads_of net = flat_map (λ (origin : Door). fulls origin.to (window net origin.to)) net.doors ++ net.differs

-- rule: Payloads into a release
-- the payloads that lead to a release, of all those of the graph
abbrev pub edges_into : Net → ℕ → List Edge
edges_into net to = filter (enters to) (payloads_of net)

-- a differential between the indexes of its releases
abbrev pub edge_of : List Release → Diff → Edge
edge_of releases diff =
    record {
      from = index_of releases diff.from;
      to = index_of releases diff.to;
      kind = kind.Differ;
      bytes = diff.size;
    }

-- the differentials of an app between indexes
abbrev pub resolved_of : App → List Edge
resolved_of app = map (edge_of app.releases) app.diffs

-- those of the app at an index
abbrev pub resolved_at : List App → ℕ → List Edge
resolved_at apps index = option_map_or resolved_of (slice_get apps index) []

-- the version of the release at an index
abbrev pub version_of_index : List Release → ℕ → List ℕ
version_of_index releases index = option_map_or (λ there. there.version) (slice_get releases index) []

-- the permitted differentials of an app, in their order
abbrev pub differs_of : App → Cohort → Pin → ℕ → List Edge
differs_of app cohort pin target =
    map (edge_of app.releases)
    (filter (permits_differ app.releases cohort pin (version_of_index app.releases target)) app.diffs)

-- the graph of a cohort's track, with the differentials given
abbrev pub net_with : App → TrackKey → Cohort → ℕ → List Edge → Net
net_with app key cohort target differs =
    record {
      key = key;
      target = target;
      rollback = rolls_back cohort key;
      doors = doors_of cohort key.pin app.releases;
      differs = differs;
    }

-- rule: Graph of a track
-- the graph of a cohort's track to a target
abbrev pub net_of : App → TrackKey → Cohort → ℕ → Net
net_of app key cohort target = net_with app key cohort target (differs_of app cohort key.pin target)

-- the graph of a track of an app, none if the track has no target
abbrev pub net_in : App → TrackKey → Option Net
net_in app key =
    option_and_then (λ cohort. option_map (net_of app key cohort) (cohort_target app cohort key))
    (slice_get app.cohorts key.cohort)

-- the graph of a track of a content, none if the track has no target
abbrev pub net_among : List App → TrackKey → Option Net
net_among apps key = option_and_then (λ app. net_in app key) (slice_get apps key.app)
