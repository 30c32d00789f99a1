-- The errors of keys and of lists of tables, whose paths are one line. A reading of a table is
-- `FailsInOneLine` a line if it reports one of each table whose place is one line.
use Rattle.std.proofs.Common.{ℕ, ◌+◌, List, [], Bool, true, false, cond, Option, Some, None, Result, Ok, Err}
use Rattle.std.specs.List.{list_any}
use Rattle.std.specs.Option.{ok_or, option_map_or}
use Rattle.std.specs.Str.{bytes_eq}
use Rattle.toml.specs.Data.{Data, Items, no_items, item, Members, no_members, member, get_member, as_array, as_str, as_table}
use Rattle.profile_toml.specs.Fields.{◌>>=◌, if_given, known, known_among, optional, required}
use Rattle.profile_toml.specs.TableLaws.{IsOneLine}
use Rattle.profile_toml.specs.Lists.{all_tables, each, each_from, element, optional_tables, required_tables, tables_of}
use Rattle.profile_toml.specs.Paths.{invalid_element, invalid_key, path_of}
use Rattle.profile_toml.specs.Tables.{PlacedList, PlacedTable, element_table, list_at}
use Rattle.profile_toml.specs.Strings.{optional_strings, string_element, strings_from, strings_if_given, strings_of}
use Rattle.profile_toml.specs.declared.tables.path.BadEntry.{BadEntry}
use Rattle.profile_toml.proofs.LineLemmas.{IsOneLine-indexed}
use Rattle.profile_toml.proofs.PathLemmas.{IsOneLine-element, IsOneLine-path_of}

-- if there is an error, its path is one line
unfoldable pub HasLine : {A : Type 0} → Result A BadEntry → Type 0
HasLine (Ok value) = Unit {0}
HasLine (Err bad) = IsOneLine bad.path

-- a value, if there is one, has that property; if there is an error, its path is one line
GivesOrLine : {A : Type 0} → (A → Type 0) → Result A BadEntry → Type 0
GivesOrLine Has (Ok value) = Has value
GivesOrLine Has (Err bad) = IsOneLine bad.path

pub HasLine-ok : {A : Type 0} (value : A) → HasLine {A = A} (Ok value)
unfolding HasLine
HasLine-ok value = tt

pub HasLine-err : (A : Type 0) (bad : BadEntry) → IsOneLine bad.path → HasLine {A = A} (Err bad)
unfolding HasLine
HasLine-err A bad line = line

pub HasLine-then : {X Y : Type 0} (first : Result X BadEntry) (step : X → Result Y BadEntry)
    → HasLine first → ((x : X) → HasLine (step x)) → HasLine (first >>= step)
unfolding HasLine
HasLine-then (Ok x) step of_first of_step = of_step x
HasLine-then (Err bad) step of_first of_step = of_first

HasLine-given : {X Y : Type 0} (Has : X → Type 0) (first : Result X BadEntry)
    (step : X → Result Y BadEntry)
    → GivesOrLine Has first → ((x : X) → Has x → HasLine (step x)) → HasLine (first >>= step)
unfolding HasLine GivesOrLine
HasLine-given Has (Ok x) step of_first of_step = of_step x of_first
HasLine-given Has (Err bad) step of_first of_step = of_first

pub HasLine-ok_or : {A : Type 0} (found : Option A) (bad : BadEntry)
    → IsOneLine bad.path → HasLine (ok_or found bad)
unfolding HasLine
HasLine-ok_or (Some value) bad line = tt
HasLine-ok_or None bad line = line

pub HasLine-cond : {A : Type 0} (test : Bool) (one other : Result A BadEntry)
    → HasLine one → HasLine other → HasLine (cond test one other)
HasLine-cond true one other of_one of_other = of_one
HasLine-cond false one other of_one of_other = of_other

-- the reading of each table whose place is one line
abbrev pub FailsInOneLine : {A : Type 0} → (PlacedTable → Result A BadEntry) → Type 0
FailsInOneLine reads = (table : PlacedTable) → IsOneLine table.place → HasLine (reads table)

HasLine-known_among : (keys : List (List ℕ)) (place : List ℕ) (members : Members)
    → IsOneLine place → HasLine (known_among keys place members)
HasLine-known_among keys place no_members of_place = HasLine-ok tt
HasLine-known_among keys place (member key value rest) of_place =
    HasLine-cond (list_any (bytes_eq key) keys)
    (known_among keys place rest) (Err (invalid_key place key))
    (HasLine-known_among keys place rest of_place)
    (HasLine-err _ (invalid_key place key) (IsOneLine-path_of place key of_place))

HasLine-if_given : {A : Type 0} (reads : Data → Option A) (bad : BadEntry) (given : Option Data)
    → IsOneLine bad.path → HasLine (if_given reads bad given)
HasLine-if_given reads bad None line = HasLine-ok None
HasLine-if_given reads bad (Some value) line =
    HasLine-then (ok_or (reads value) bad) (λ read. Ok (Some read))
    (HasLine-ok_or (reads value) bad line) (λ read. HasLine-ok (Some read))

-- the steps of a reading, each with the lemma of what follows it
pub needs : {A Y : Type 0} (reads : Data → Option A) (key : List ℕ) (table : PlacedTable)
    (step : A → Result Y BadEntry) → IsOneLine table.place → ((x : A) → HasLine (step x))
    → HasLine (required reads key table >>= step)
needs reads key table step of_place of_step =
    HasLine-then (required reads key table) step
    (HasLine-ok_or _ (invalid_key table.place key) (IsOneLine-path_of table.place key of_place))
    of_step

pub takes : {A Y : Type 0} (reads : Data → Option A) (key : List ℕ) (table : PlacedTable)
    (step : Option A → Result Y BadEntry) → IsOneLine table.place
    → ((x : Option A) → HasLine (step x)) → HasLine (optional reads key table >>= step)
takes reads key table step of_place of_step =
    HasLine-then (optional reads key table) step
    (HasLine-if_given reads (invalid_key table.place key) (get_member key table.members)
    (IsOneLine-path_of table.place key of_place))
    of_step

pub knows : {Y : Type 0} (keys : List (List ℕ)) (table : PlacedTable)
    (step : Unit {0} → Result Y BadEntry) → IsOneLine table.place
    → ((x : Unit {0}) → HasLine (step x)) → HasLine (known keys table >>= step)
knows keys table step of_place of_step =
    HasLine-then (known keys table) step
    (HasLine-known_among keys table.place table.members of_place) of_step

-- an element is a table whose place is one line
abbrev IsPlaced : PlacedTable → Type 0
IsPlaced table = IsOneLine table.place

abbrev IsListed : PlacedList → Type 0
IsListed list = IsOneLine list.path

GivesOrLine-element : (list : List ℕ) (index : ℕ) (value : Data)
    → IsOneLine list → GivesOrLine IsPlaced (element list index value)
unfolding GivesOrLine
GivesOrLine-element list index value of_list = by_table (as_table value)
  where
    by_table : (found : Option Members)
        → GivesOrLine IsPlaced (ok_or found (invalid_element list index) >>= λ entries.
        Ok (element_table list index entries))
    by_table (Some entries) = IsOneLine-element list index of_list
    by_table None = IsOneLine-indexed list index of_list

pub each_element : {Y : Type 0} (list : List ℕ) (index : ℕ) (value : Data)
    (step : PlacedTable → Result Y BadEntry) → IsOneLine list → FailsInOneLine step
    → HasLine (element list index value >>= step)
each_element list index value step of_list of_step =
    HasLine-given IsPlaced (element list index value) step
    (GivesOrLine-element list index value of_list) of_step

HasLine-all_tables : (list : List ℕ) (index : ℕ) (items : Items)
    → IsOneLine list → HasLine (all_tables list index items)
HasLine-all_tables list index no_items of_list = HasLine-ok tt
HasLine-all_tables list index (item value rest) of_list =
    each_element list index value _ of_list
    (λ table of_place. HasLine-all_tables list (index + 1) rest of_list)

GivesOrLine-tables_of : (key : List ℕ) (table : PlacedTable) (value : Data)
    → IsOneLine table.place → GivesOrLine IsListed (tables_of key table value)
unfolding tables_of GivesOrLine HasLine
GivesOrLine-tables_of key table value of_place = by_array (as_array value)
  where
    path : List ℕ
    path = path_of table.place key

    by_all : (items : Items) (all : Result (Unit {0}) BadEntry) → HasLine all
        → GivesOrLine IsListed (all >>= λ all_are_tables. Ok (list_at path items))
    by_all items (Ok all) of_all = IsOneLine-path_of table.place key of_place
    by_all items (Err bad) of_all = of_all

    by_array : (found : Option Items)
        → GivesOrLine IsListed (ok_or found (invalid_key table.place key) >>= λ items.
        (all_tables path 0 items >>= λ all_are_tables. Ok (list_at path items)))
    by_array None = IsOneLine-path_of table.place key of_place
    by_array (Some items) =
        by_all items (all_tables path 0 items)
        (HasLine-all_tables path 0 items (IsOneLine-path_of table.place key of_place))

GivesOrLine-required : (key : List ℕ) (table : PlacedTable)
    → IsOneLine table.place → GivesOrLine IsListed (required_tables key table)
unfolding required_tables GivesOrLine
GivesOrLine-required key table of_place = by_value (get_member key table.members)
  where
    by_value : (given : Option Data)
        → GivesOrLine IsListed (ok_or given (invalid_key table.place key) >>= tables_of key table)
    by_value None = IsOneLine-path_of table.place key of_place
    by_value (Some value) = GivesOrLine-tables_of key table value of_place

GivesOrLine-optional : (key : List ℕ) (table : PlacedTable)
    → IsOneLine table.place → GivesOrLine IsListed (optional_tables key table)
unfolding optional_tables GivesOrLine
GivesOrLine-optional key table of_place = by_value (get_member key table.members)
  where
    by_value : (given : Option Data)
        → GivesOrLine IsListed (option_map_or (tables_of key table) given
        (Ok (list_at (path_of table.place key) no_items)))
    by_value None = IsOneLine-path_of table.place key of_place
    by_value (Some value) = GivesOrLine-tables_of key table value of_place

-- the list under a key, whose path is one line
pub needs_list : {Y : Type 0} (key : List ℕ) (table : PlacedTable)
    (step : PlacedList → Result Y BadEntry) → IsOneLine table.place
    → ((list : PlacedList) → IsOneLine list.path → HasLine (step list))
    → HasLine (required_tables key table >>= step)
needs_list key table step of_place of_step =
    HasLine-given IsListed (required_tables key table) step
    (GivesOrLine-required key table of_place) of_step

pub takes_list : {Y : Type 0} (key : List ℕ) (table : PlacedTable)
    (step : PlacedList → Result Y BadEntry) → IsOneLine table.place
    → ((list : PlacedList) → IsOneLine list.path → HasLine (step list))
    → HasLine (optional_tables key table >>= step)
takes_list key table step of_place of_step =
    HasLine-given IsListed (optional_tables key table) step
    (GivesOrLine-optional key table of_place) of_step

HasLine-each_from : {A : Type 0} (reads : PlacedTable → Result A BadEntry) → FailsInOneLine reads
    → (list : List ℕ) → IsOneLine list
    → (index : ℕ) (items : Items) → HasLine (each_from reads list index items)
HasLine-each_from reads of_reads list of_list index no_items = HasLine-ok []
HasLine-each_from reads of_reads list of_list index (item value values) =
    each_element list index value _ of_list (λ table of_place.
    HasLine-then (reads table) _ (of_reads table of_place) (λ first.
    HasLine-then (each_from reads list (index + 1) values) _
    (HasLine-each_from reads of_reads list of_list (index + 1) values) (λ rest. HasLine-ok _)))

pub reads_each : {A Y : Type 0} (reads : PlacedTable → Result A BadEntry) (list : PlacedList)
    (step : List A → Result Y BadEntry) → FailsInOneLine reads → IsOneLine list.path
    → ((xs : List A) → HasLine (step xs)) → HasLine (each reads list >>= step)
reads_each reads list step of_reads of_list of_step =
    HasLine-then (each reads list) step
    (HasLine-each_from reads of_reads list.path of_list 0 list.items) of_step

HasLine-strings_from : (list : List ℕ) (index : ℕ) (items : Items)
    → IsOneLine list → HasLine (strings_from list index items)
HasLine-strings_from list index no_items of_list = HasLine-ok []
HasLine-strings_from list index (item value values) of_list =
    HasLine-then (string_element list index value) _
    (HasLine-ok_or (as_str value) (invalid_element list index) (IsOneLine-indexed list index of_list)) (λ first.
    HasLine-then (strings_from list (index + 1) values) _
    (HasLine-strings_from list (index + 1) values of_list) (λ rest. HasLine-ok _))

HasLine-strings_of : (key : List ℕ) (table : PlacedTable) (value : Data)
    → IsOneLine table.place → HasLine (strings_of key table value)
unfolding strings_of
HasLine-strings_of key table value of_place =
    HasLine-then (ok_or (as_array value) (invalid_key table.place key)) _
    (HasLine-ok_or (as_array value) (invalid_key table.place key) (IsOneLine-path_of table.place key of_place)) (λ items.
    HasLine-strings_from (path_of table.place key) 0 items (IsOneLine-path_of table.place key of_place))

HasLine-strings_if_given : (key : List ℕ) (table : PlacedTable) (given : Option Data)
    → IsOneLine table.place → HasLine (strings_if_given key table given)
HasLine-strings_if_given key table None of_place = HasLine-ok None
HasLine-strings_if_given key table (Some value) of_place =
    HasLine-then (strings_of key table value) _ (HasLine-strings_of key table value of_place) (λ strings. HasLine-ok _)

-- the strings under a key
pub takes_strings : {Y : Type 0} (key : List ℕ) (table : PlacedTable)
    (step : Option (List (List ℕ)) → Result Y BadEntry) → IsOneLine table.place
    → ((strings : Option (List (List ℕ))) → HasLine (step strings))
    → HasLine (optional_strings key table >>= step)
takes_strings key table step of_place of_step =
    HasLine-then (optional_strings key table) step
    (HasLine-strings_if_given key table (get_member key table.members) of_place) of_step
