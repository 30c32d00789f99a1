-- Tables that are kept from one call to the next; this project's profile.
use Rattle.std.specs.Prelude.{◌≡◌, ℕ, List, [], All, map, Option, Some}
use Rattle.std.specs.Option.{option_map_or}
use Rattle.lru.specs.LruCache.{LruCache}
use Rattle.catalogue.specs.declared.content.App.{App}
use Rattle.payload_graph.specs.declared.payload.TrackKey.{TrackKey}
use Rattle.price_cert.specs.Tables.{Certificate}
use Rattle.par_tables.specs.Marks.{IsTableOf}

-- a cache: the tables that it has, and how many it may have
pub record Cached : Type 0 where
  pub tables : List Certificate
  pub capacity : ℕ

-- the tables of pairs of keys and tables
abbrev pub tables_among : List (TrackKey × Certificate) → List Certificate
tables_among entries = map (λ (entry : TrackKey × Certificate). entry.1) entries

-- those of a cache of such pairs, none if there is no cache
abbrev pub tables_in : Option (LruCache TrackKey Certificate) → List Certificate
tables_in cache = option_map_or (λ (there : LruCache TrackKey Certificate). tables_among there.entries) cache []

-- rule: Cached tables
-- each table is that of its key's track in a content
abbrev pub AreOwnTables : List App → List Certificate → Type 0
AreOwnTables apps tables = All (λ (table : Certificate). IsTableOf apps table.net.key table) tables
