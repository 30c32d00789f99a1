-- What each reader of a table returns, by what is under its key.
use Rattle.std.proofs.Common.{◌≡◌, ℕ, ◌+◌, Bool, true, false, List, [], ◌∷◌, map, Option, Some, None, Result, Ok, refl}
use Rattle.std.specs.List.{AllByRecursion}
use Rattle.toml.specs.Data.{Members, get_member, as_bool, as_str}
use Rattle.profile_toml.specs.Fields.{as_natural, optional, required}
use Rattle.profile_toml.specs.Lists.{all_tables, each_from, optional_tables, required_tables, tables_of}
use Rattle.profile_toml.specs.Paths.{path_of}
use Rattle.profile_toml.specs.Tables.{PlacedTable, list_at, table_at}
use Rattle.profile_toml.specs.Strings.{optional_strings, strings_from, strings_of}
use Rattle.profile_toml.specs.declared.tables.path.BadEntry.{BadEntry}
use Rattle.profile_toml.specs.WrittenTables.{flag, natural, optional_natural, optional_string, optional_list, table_items, tables, given_string, string_items}

-- a flag as it is given
abbrev pub given : Bool → Option Bool
given true = Some true
given false = None

strings_from-string_items : (list : List ℕ) (index : ℕ) (texts : List (List ℕ))
    → strings_from list index (string_items texts) ≡ Ok texts
strings_from-string_items list index [] = refl
strings_from-string_items list index (text ∷ texts) = rw (strings_from-string_items list (index + 1) texts) refl

all_tables-table_items : (list : List ℕ) (index : ℕ) (tables : List Members)
    → all_tables list index (table_items tables) ≡ Ok tt
all_tables-table_items list index [] = refl
all_tables-table_items list index (first ∷ others) = all_tables-table_items list (index + 1) others

module _ (place key : List ℕ) (members : Members) where
  pub required-string : (string : List ℕ) → get_member key members ≡ given_string string
      → required as_str key (table_at place members) ≡ Ok string
  required-string string is = rw is refl

  pub required-natural : (number : ℕ) → get_member key members ≡ natural number
      → required as_natural key (table_at place members) ≡ Ok number
  required-natural number is = rw is refl

  pub optional-string : (string : Option (List ℕ)) → get_member key members ≡ optional_string string
      → optional as_str key (table_at place members) ≡ Ok string
  optional-string None is = rw is refl
  optional-string (Some string) is = rw is refl

  pub optional-natural : (number : Option ℕ) → get_member key members ≡ optional_natural number
      → optional as_natural key (table_at place members) ≡ Ok number
  optional-natural None is = rw is refl
  optional-natural (Some number) is = rw is refl

  pub optional-flag : (on : Bool) → get_member key members ≡ flag on
      → optional as_bool key (table_at place members) ≡ Ok (given on)
  optional-flag true is = rw is refl
  optional-flag false is = rw is refl

  pub optional_strings-given : (texts : Option (List (List ℕ))) → get_member key members ≡ optional_list texts
      → optional_strings key (table_at place members) ≡ Ok texts
  unfolding strings_of
  optional_strings-given None is = rw is refl
  optional_strings-given (Some texts) is = rw (is, strings_from-string_items (path_of place key) 0 texts) refl

  pub optional_tables-given : (list : List Members) → get_member key members ≡ tables list
      → optional_tables key (table_at place members) ≡ Ok (list_at (path_of place key) (table_items list))
  unfolding optional_tables tables_of
  optional_tables-given [] is = rw is refl
  optional_tables-given (first ∷ others) is =
      rw (is, all_tables-table_items (path_of place key) 0 (first ∷ others)) refl

  pub required_tables-given : (first : Members) (others : List Members) → get_member key members ≡ tables (first ∷ others)
      → required_tables key (table_at place members) ≡ Ok (list_at (path_of place key) (table_items (first ∷ others)))
  unfolding required_tables tables_of
  required_tables-given first others is =
      rw (is, all_tables-table_items (path_of place key) 0 (first ∷ others)) refl

-- if each table is read as its item's entry, so is the list
pub each_from-again : {X A : Type 0} (P : X → Type 0) (reads : PlacedTable → Result A BadEntry)
    (write : X → Members) (entry : X → A)
    → ((place : List ℕ) (x : X) → P x → reads (table_at place (write x)) ≡ Ok (entry x))
    → (list : List ℕ) (index : ℕ) (xs : List X) → AllByRecursion P xs
    → each_from reads list index (table_items (map write xs)) ≡ Ok (map entry xs)
each_from-again P reads write entry step list index [] all = refl
each_from-again P reads write entry step list index (x ∷ xs) all =
    rw (step _ x all.0, each_from-again P reads write entry step list (index + 1) xs all.1) refl
