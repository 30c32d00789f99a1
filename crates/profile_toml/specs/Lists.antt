-- Lists of tables under a key; this project's profile.
use Rattle.std.specs.Prelude.{ℕ, ◌+◌, List, [], ◌∷◌, Result, Ok}
use Rattle.std.specs.Option.{ok_or, option_map_or}
use Rattle.toml.specs.Data.{Data, Items, no_items, item, get_member, as_array, as_table}
use Rattle.profile_toml.specs.Fields.{◌>>=◌}
use Rattle.profile_toml.specs.Paths.{invalid_element, invalid_key, path_of}
use Rattle.profile_toml.specs.Tables.{PlacedList, PlacedTable, element_table, list_at}
use Rattle.profile_toml.specs.declared.tables.path.BadEntry.{BadEntry}

-- the table that is an element of the list at a path
abbrev pub element : List ℕ → ℕ → Data → Result PlacedTable BadEntry
element list index value =
    ok_or (as_table value) (invalid_element list index) >>= λ members.
    Ok (element_table list index members)

-- each element from that index on is a table; else the first that is none is the error
abbrev pub all_tables : List ℕ → ℕ → Items → Result (Unit {0}) BadEntry
all_tables list index no_items = Ok tt
all_tables list index (item value rest) =
    element list index value >>= λ table. all_tables list (index + 1) rest

-- the list that a value is, if it is one of tables
unfoldable pub tables_of : List ℕ → PlacedTable → Data → Result PlacedList BadEntry
tables_of key table value = do
  items ← ok_or (as_array value) (invalid_key table.place key)
  all_are_tables ← all_tables (path_of table.place key) 0 items
  Ok (list_at (path_of table.place key) items)

-- the list of tables under a key that must be there
unfoldable pub required_tables : List ℕ → PlacedTable → Result PlacedList BadEntry
required_tables key table = do
  value ← ok_or (get_member key table.members) (invalid_key table.place key)
  tables_of key table value

-- the list of tables under a key, the empty one if the key is missing
unfoldable pub optional_tables : List ℕ → PlacedTable → Result PlacedList BadEntry
optional_tables key table =
    option_map_or (tables_of key table) (get_member key table.members)
    (Ok (list_at (path_of table.place key) no_items))

-- what each table of the list at a path is read as, the first of them having that index, or the
-- first error
abbrev pub each_from : {A : Type 0}
    → (PlacedTable → Result A BadEntry) → List ℕ → ℕ → Items → Result (List A) BadEntry
each_from reads list index no_items = Ok []
each_from reads list index (item value values) = do
  table ← element list index value
  first ← reads table
  rest ← each_from reads list (index + 1) values
  Ok (first ∷ rest)

-- rule: Tables of a list
-- what each table of a list is read as, or the first error
abbrev pub each : {A : Type 0}
    → (PlacedTable → Result A BadEntry) → PlacedList → Result (List A) BadEntry
each reads list = each_from reads list.path 0 list.items
