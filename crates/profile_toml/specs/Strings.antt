-- Lists of strings under a key; this project's profile.
use Rattle.std.specs.Prelude.{ℕ, ◌+◌, List, [], ◌∷◌, Option, Some, None, Result, Ok}
use Rattle.std.specs.Option.{ok_or}
use Rattle.toml.specs.Data.{Data, Items, no_items, item, get_member, as_array, as_str}
use Rattle.profile_toml.specs.Fields.{◌>>=◌}
use Rattle.profile_toml.specs.Paths.{invalid_element, invalid_key, path_of}
use Rattle.profile_toml.specs.Tables.{PlacedTable}
use Rattle.profile_toml.specs.declared.tables.path.BadEntry.{BadEntry}

-- the string that is an element of the list at a path
abbrev pub string_element : List ℕ → ℕ → Data → Result (List ℕ) BadEntry
string_element list index value = ok_or (as_str value) (invalid_element list index)

-- the strings of the list at a path, the first of them having that index; or the first element that is
-- none is the error
abbrev pub strings_from : List ℕ → ℕ → Items → Result (List (List ℕ)) BadEntry
strings_from list index no_items = Ok []
strings_from list index (item value values) = do
  first ← string_element list index value
  rest ← strings_from list (index + 1) values
  Ok (first ∷ rest)

-- the strings of a value, if it is a list of them
unfoldable pub strings_of : List ℕ → PlacedTable → Data → Result (List (List ℕ)) BadEntry
strings_of key table value = do
  items ← ok_or (as_array value) (invalid_key table.place key)
  strings_from (path_of table.place key) 0 items

-- those of a value, if there is one
abbrev pub strings_if_given : List ℕ → PlacedTable → Option Data → Result (Option (List (List ℕ))) BadEntry
strings_if_given key table None = Ok None
strings_if_given key table (Some value) = strings_of key table value >>= λ strings. Ok (Some strings)

-- rule: Strings of a list
-- the list of strings under a key that may be missing
abbrev pub optional_strings : List ℕ → PlacedTable → Result (Option (List (List ℕ))) BadEntry
optional_strings key table = strings_if_given key table (get_member key table.members)
