-- What a graph keeps beside what contracts see of it: how far each window reaches, and which full packages open at
-- the floors of lower releases.
use Rattle.std.specs.Prelude.{◌≡◌, ℕ, ◌+◌, ◌<◌, ◌≤◌, ◌==◌, ◌&&◌, ◌⊎◌, All, Bool, if◌then◌else◌, false, true, List, [], drop, length, nat_le, nat_lt, slice_get, slice_index, slice_index_or, take, Option, None, Some, option_and_then, option_map}
use Rattle.std.specs.List.Sorted.{IsNonDecreasingBy}
use Rattle.std.specs.List.{filter}
use Rattle.catalogue.specs.Forms.{is_size}
use Rattle.catalogue.specs.Limits.{max_releases}
use Rattle.catalogue.specs.declared.content.Cohort.{Cohort}
use Rattle.catalogue.specs.declared.content.Release.{Release}
use Rattle.catalogue.specs.declared.content.App.{App}
use Rattle.payload_graph.specs.Chains.{cohort_target}
use Rattle.payload_graph.specs.Permitted.{rolls_back}
use Rattle.payload_graph.specs.declared.payload.TrackKey.{TrackKey}
use Rattle.payload_graph.specs.Net.{Net, between, doors_of, full, fulls, leaves, opens, to_stone}
use Rattle.payload_graph.specs.declared.door.Door.{Door}
use Rattle.payload_graph.specs.declared.edge.Edge.{Edge}

-- the default of `door_at`: it leads nowhere
abbrev pub no_door : Door
no_door = record { to = 0; bytes = 0; offered = false; stone = false; floor = 0 }

-- the door of a release
abbrev pub door_at : Net → ℕ → Door
door_at net index = slice_index_or net.doors index no_door

-- the end of a release's window, at or below the target
abbrev pub reach_of : ℕ → List Door → ℕ → ℕ
reach_of target doors from = from + 1 + length (to_stone (between (from + 1) (target + 1) doors))

-- the ends of the windows of all releases up to the target
pub record AreReaches (target : ℕ) (doors : List Door) (reaches : List ℕ) : Type 0 where
  pub sized : length reaches ≡ target + 1
  pub right : (from : ℕ) → from ≤ target → slice_index reaches from ≡ reach_of target doors from

-- the way from the one release to the other leads nearer the target: up to at most the target, or
-- down from above it
abbrev pub LeadsNearer : ℕ → ℕ → ℕ → Type 0
LeadsNearer target from to = ((from < to) × (to ≤ target)) ⊎ ((target < from) × (to < from))

-- the payload leads nearer the target
abbrev pub IsNearing : ℕ → Edge → Type 0
IsNearing target edge = LeadsNearer target edge.from edge.to

-- each door leads to its own index
abbrev pub AreNumbered : List Door → Type 0
AreNumbered doors = (index : ℕ) → index < length doors → (slice_index_or doors index no_door).to ≡ index

-- a differential's destination is before its origin's reach, and its door opens from there
abbrev pub is_reached : ℕ → List Door → Edge → Bool
is_reached target doors edge =
    nat_le edge.from target
    && (nat_lt edge.to (reach_of target doors edge.from) && opens edge.from (slice_index_or doors edge.to no_door))

-- an index is the floor of a door that is below it
abbrev pub is_floor_of : ℕ → Door → Bool
is_floor_of index door = nat_lt door.to index && index == door.floor

-- the full packages that open at a release through doors that are below it: they leave it, and no release below it
abbrev pub openings : List Door → ℕ → List Edge
openings doors index = fulls index (filter (is_floor_of index) doors)

-- the full package of a door from its floor, if the door is offered and below that
abbrev pub late_edge : Door → Option Edge
late_edge door = if door.offered && nat_lt door.to door.floor then Some (full door.floor door) else None

-- all of them, by ascending floor
pub record AreOpenings (doors : List Door) (edges : List Edge) : Type 0 where
  pub sorted : IsNonDecreasingBy (λ (edge : Edge). edge.from) edges
  pub right : (index : ℕ) → filter (leaves index) edges ≡ openings doors index

-- the releases below another one whose windows reach it, none if it is above the target
abbrev pub origins_below : ℕ → List Door → ℕ → List Door
origins_below target doors to =
    if nat_lt target to
    then []
    else filter (λ (origin : Door). nat_lt to (reach_of target doors origin.to)) (take to doors)

-- the releases above both the target and another one
abbrev pub origins_above : ℕ → List Door → ℕ → List Door
origins_above target doors to = drop (if nat_lt target to then to + 1 else target + 1) doors

-- the releases of an app: few enough, and each of a valid size
pub record AreBounded (releases : List Release) : Type 0 where
  pub few : length releases ≤ max_releases
  pub sized : All (λ (release : Release). is_size release.size ≡ true) releases

-- resolved differentials: each leads up between releases and has a valid size, and they are sorted by
-- ascending origin
pub record AreResolved (count : ℕ) (edges : List Edge) : Type 0 where
  pub sorted : IsNonDecreasingBy (λ (edge : Edge). edge.from) edges
  pub rising : All (λ (edge : Edge). (edge.from < edge.to) × (edge.to < count)) edges
  pub sized : All (λ (edge : Edge). is_size edge.bytes ≡ true) edges

-- how large a graph is at most: it has as many releases as an app may have, and its packages have valid
-- sizes
pub record IsBounded (net : Net) : Type 0 where
  pub few : length net.doors ≤ max_releases
  pub doors_sized : All (λ (door : Door). is_size door.bytes ≡ true) net.doors
  pub differs_sized : All (λ (edge : Edge). is_size edge.bytes ≡ true) net.differs

-- what holds of every graph, its reaches and its marks
pub record IsSound (net : Net) (reaches : List ℕ) (late : List Edge) : Type 0 where
  pub within : net.target < length net.doors
  pub numbered : AreNumbered net.doors
  pub reached : AreReaches net.target net.doors reaches
  pub opened : AreOpenings net.doors late
  pub sorted : IsNonDecreasingBy (λ (edge : Edge). edge.from) net.differs
  pub nearing : All (IsNearing net.target) net.differs
  pub bounded : IsBounded net

-- the graph that a cohort's releases and resolved differentials give
abbrev pub net_from : TrackKey → Cohort → List Release → ℕ → List Edge → Net
net_from key cohort releases target resolved =
    record {
      key = key;
      target = target;
      rollback = rolls_back cohort key;
      doors = doors_of cohort key.pin releases;
      differs = filter (is_reached target (doors_of cohort key.pin releases)) resolved;
    }

-- the graph of a key in its cohort with the resolved differentials given, none if it has no target
abbrev pub net_in_cohort : App → TrackKey → Cohort → List Edge → Option Net
net_in_cohort app key cohort resolved =
    option_map (λ target. net_from key cohort app.releases target resolved)
    (cohort_target app cohort key)

-- the same of a track of an app
abbrev pub net_in_app : App → TrackKey → List Edge → Option Net
net_in_app app key resolved =
    option_and_then (λ cohort. net_in_cohort app key cohort resolved)
    (slice_get app.cohorts key.cohort)
