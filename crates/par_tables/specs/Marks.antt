-- The tables of some cohorts of a content, and those kept of the others; this project's profile.
use Rattle.std.specs.Prelude.{◌≡◌, ℕ, ◌<◌, Bool, true, false, List, [], All, Some, length, map, slice_index_or}
use Rattle.std.specs.List.{filter}
use Rattle.catalogue.specs.declared.content.App.{App}
use Rattle.cohorts.specs.declared.pin.Pin.TheVariants as pin
use Rattle.payload_graph.specs.declared.payload.TrackKey.{TrackKey}
use Rattle.payload_graph.specs.Net.{Net, net_among}
use Rattle.price_cert.specs.Tables.{Certificate}
use Rattle.par_tables.specs.Pieces.{has_target}
use Rattle.par_tables.specs.Sources.{source_at}
use Rattle.par_tables.specs.Tables.{IsTable, net_of_table, nets_of}
use Rattle.par_tables.specs.Tracks.{keys_of}

-- marks of the cohorts of each app
abbrev pub Marks : Type 0
Marks = List (List Bool)

-- the cohort of the track is marked; one without a mark counts as marked
abbrev pub is_marked : Marks → TrackKey → Bool
is_marked marks key = slice_index_or (slice_index_or marks key.app []) key.cohort true

-- the keys of the tracks of marked cohorts, in order
abbrev pub marked_keys : List App → Marks → List TrackKey
marked_keys apps marks = filter (is_marked marks) (keys_of apps)

-- those of them that have a target
abbrev pub marked_tracks : List App → Marks → List TrackKey
marked_tracks apps marks = filter (has_target apps) (marked_keys apps marks)

-- rule: Tables of marked cohorts
-- of the tables of a content those whose cohort is marked, in order, each certified for its graph
pub record AreTablesFor (apps : List App) (marks : Marks) (tables : List Certificate) : Type 0 where
  pub nets : map net_of_table tables ≡ nets_of apps (marked_keys apps marks)
  pub certified : All IsTable tables

-- the table is that of the track of a key
pub record IsTableOf (apps : List App) (key : TrackKey) (table : Certificate) : Type 0 where
  pub own : net_among apps key ≡ Some table.net
  pub is : IsTable table

-- a track of a content's tables: it has a target, its clients have no pin, and it allows a downgrade only if its cohort
-- does
pub record IsTrack (apps : List App) (key : TrackKey) : Type 0 where
  pub target : has_target apps key ≡ true
  pub pin : key.pin ≡ pin.Any
  pub rollback : (net : Net) → net_among apps key ≡ Some net → net.rollback ≡ key.rollback

-- if the cohort of a key is marked, the built table at an index is that of its track
abbrev pub IsNext : List App → Marks → List Certificate → ℕ → TrackKey → Type 0
IsNext apps marks built next key =
    is_marked marks key ≡ true →
    (next < length built) × ((d : Certificate) → IsTableOf apps key (slice_index_or built next d))

-- rule: Kept tables
-- the graphs of the tracks of cohorts without a mark have the same sources in two contents
abbrev pub KeepsOthers : List App → List App → Marks → Type 0
KeepsOthers apps made marks =
    (key : TrackKey) → is_marked marks key ≡ false →
    source_at made key.app key.cohort ≡ source_at apps key.app key.cohort
