-- Where the tables of a list are found: those of one cohort are together, four at most.
use Rattle.std.specs.Prelude.{◌≡◌, ℕ, ◌+◌, ◌<◌, ◌≤◌, List, length, slice_get, slice_index_or, take, Option, Some, option_and_then}
use Rattle.catalogue.specs.declared.content.App.{App}
use Rattle.payload_graph.specs.declared.payload.TrackKey.{TrackKey}
use Rattle.payload_graph.specs.Net.{Net}
use Rattle.price_cert.specs.Tables.{Certificate}
use Rattle.par_tables.specs.Tables.{nets_of}
use Rattle.par_tables.specs.Tracks.{app_keys, joined_from}
use Rattle.par_tables.specs.declared.places.Places.{Places}

-- where the search for a key begins, by how many cohorts are before those of each app and where the
-- tables of each cohort begin
abbrev pub start_of : List ℕ → List ℕ → TrackKey → Option ℕ
start_of firsts starts key =
    option_and_then (λ first. slice_get starts (first + key.cohort)) (slice_get firsts key.app)

-- rule: Table of a key
-- a key is found at a place: the search for it begins at most three places before
pub record IsPlaced (firsts starts : List ℕ) (key : TrackKey) (place : ℕ) : Type 0 where
  pub start : ℕ
  pub found : start_of firsts starts key ≡ Some start
  pub low : start ≤ place
  pub high : place < start + 4

-- each key is found at its place
abbrev pub ArePlaced : List ℕ → List ℕ → List Net → Type 0
ArePlaced firsts starts nets =
    (place : ℕ) (d : Net) → place < length nets → IsPlaced firsts starts (slice_index_or nets place d).key place

-- a table has another key
abbrev pub HasOtherKey : TrackKey → Certificate → Type 0
HasOtherKey key table = ¬ (table.net.key ≡ key)

-- so has the table at a place of a list, if there is one
abbrev pub HasOtherKeyAt : TrackKey → List Certificate → ℕ → Type 0
HasOtherKeyAt key tables place =
    (d : Certificate) → place < length tables → HasOtherKey key (slice_index_or tables place d)

-- the places of the tables of the first apps of a content, and how many tables they have
pub record ArePlacesOf (apps : List App) (app : ℕ) (places : Places) : Type 0 where
  pub apps_count : length places.firsts.items ≡ app
  pub counted : places.count ≡ length (nets_of apps (joined_from app_keys 0 (take app apps)))
  pub placed : ArePlaced places.firsts.items places.starts.items (nets_of apps (joined_from app_keys 0 (take app apps)))
