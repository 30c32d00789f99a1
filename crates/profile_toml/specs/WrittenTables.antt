-- Tables of a TOML document that are filled key by key. A table's keys ascend by their bytes, whatever the
-- order in which they come in.
use Rattle.std.specs.Prelude.{ℕ, pos, Bool, true, List, [], ◌∷◌, Option, Some, None, option_map, if◌then◌else◌}
use Rattle.std.specs.Ordering.{nat_cmp, match_ordering}
use Rattle.std.specs.Cmp.Lexicographic.{slice_cmp}
use Rattle.toml.specs.Data.{Data, string, integer, boolean, array, table, Items, no_items, item, Members, no_members, member}

-- a table with that value under the key
abbrev pub put : List ℕ → Data → Members → Members
put key value no_members = member key value no_members
put key value (member other here rest) =
    match_ordering (slice_cmp nat_cmp key other)
    (member key value (member other here rest))
    (member other value rest)
    (member other here (put key value rest))

-- a key, with its value if it has one
abbrev pub Field : Type 0
Field = List ℕ × Option Data

-- a table with one more key, which is left out if it has no value
abbrev pub with_key : List ℕ → Option Data → Members → Members
with_key key None members = members
with_key key (Some value) members = put key value members

-- a table with more keys
abbrev pub with_fields : Members → List Field → Members
with_fields members [] = members
with_fields members (field ∷ fields) = with_fields (with_key field.0 field.1 members) fields

-- the table of these keys
abbrev pub filled_table : List Field → Members
filled_table fields = with_fields no_members fields

-- the strings of a list
abbrev pub string_items : List (List ℕ) → Items
string_items [] = no_items
string_items (text ∷ texts) = item (string text) (string_items texts)

-- the tables of a list
abbrev pub table_items : List Members → Items
table_items [] = no_items
table_items (members ∷ tables) = item (table members) (table_items tables)

-- a string, and a number
abbrev pub given_string : List ℕ → Option Data
given_string bytes = Some (string bytes)

abbrev pub natural : ℕ → Option Data
natural number = Some (integer (pos number))

-- a flag, which is left out if it is off
abbrev pub flag : Bool → Option Data
flag on = if on then Some (boolean true) else None

-- what may be missing
abbrev pub optional_string : Option (List ℕ) → Option Data
optional_string bytes = option_map string bytes

abbrev pub optional_natural : Option ℕ → Option Data
optional_natural number = option_map (λ n. integer (pos n)) number

abbrev pub optional_list : Option (List (List ℕ)) → Option Data
optional_list texts = option_map (λ list. array (string_items list)) texts

-- a list of tables, which is left out if it is empty
abbrev pub tables : List Members → Option Data
tables [] = None
tables (members ∷ others) = Some (array (table_items (members ∷ others)))
