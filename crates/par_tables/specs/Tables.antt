-- The tables of a catalogue: one for each track that has a target.
use Rattle.std.specs.Prelude.{◌≡◌, List, ◌++◌, All, Any, Some, filter_map, map}
use Rattle.catalogue.specs.declared.content.App.{App}
use Rattle.cohorts.specs.declared.pin.Pin.TheVariants as pin
use Rattle.payload_graph.specs.declared.payload.TrackKey.{TrackKey}
use Rattle.payload_graph.specs.Net.{Net, net_among}
use Rattle.price_cert.specs.Laws.{IsGraph}
use Rattle.price_cert.specs.Rules.{AreCertified}
use Rattle.price_cert.specs.Tables.{Certificate}
use Rattle.par_tables.specs.Tracks.{keys_of}

-- the graphs of those tracks of a content that have a target, in order
abbrev pub nets_of : List App → List TrackKey → List Net
nets_of apps keys = filter_map (net_among apps) keys

-- the graph that a table was checked against
abbrev pub net_of_table : Certificate → Net
net_of_table table = table.net

-- a table is certified for its graph
pub record IsTable (table : Certificate) : Type 0 where
  pub graph : IsGraph table.net
  pub certified : AreCertified table.net table.rows

-- rule: Tables of a catalogue
-- the tables are those of the graphs of all tracks with a target, in order, each certified for its graph
pub record AreTables (apps : List App) (tables : List Certificate) : Type 0 where
  pub nets : map net_of_table tables ≡ nets_of apps (keys_of apps)
  pub certified : All IsTable tables

-- the tables of some tracks were added at the end
pub record Adds (apps : List App) (keys : List TrackKey) (old new : List Certificate) : Type 0 where
  pub nets : map net_of_table new ≡ map net_of_table old ++ nets_of apps keys
  pub certified : All IsTable old → All IsTable new

-- each table is that of the track of its key
abbrev pub TablesAreOfTracks : Type 0
TablesAreOfTracks =
    (apps : List App) (tables : List Certificate) →
    AreTables apps tables → All (λ (table : Certificate). net_among apps table.net.key ≡ Some table.net) tables

-- each track of clients without a pin that has a target has a table; one that allows a downgrade only if its
-- cohort does
abbrev pub TracksHaveTables : Type 0
TracksHaveTables =
    (apps : List App) (tables : List Certificate) (key : TrackKey) (net : Net) →
    AreTables apps tables →
    net_among apps key ≡ Some net →
    net.rollback ≡ key.rollback →
    key.pin ≡ pin.Any →
    Any (λ (table : Certificate). table.net ≡ net) tables

-- a content has one list of tables
abbrev pub TablesAreOne : Type 0
TablesAreOne =
    (apps : List App) (tables others : List Certificate) →
    AreTables apps tables → AreTables apps others → tables ≡ others
