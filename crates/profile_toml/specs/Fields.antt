-- What is under one key of a table, and the errors of a table's keys; this project's profile. A
-- table's keys ascend by their bytes.
use Rattle.std.specs.Prelude.{ℕ, ℤ, pos, negsuc, Bool, List, if◌then◌else◌, Option, Some, None, option_and_then, Result, Ok, Err}
use Rattle.std.specs.List.{list_any}
use Rattle.std.specs.Option.{ok_or}
use Rattle.std.specs.Str.{bytes_eq}
use Rattle.toml.specs.Data.{Data, Members, no_members, member, get_member, as_integer}
use Rattle.profile_toml.specs.Paths.{invalid_key}
use Rattle.profile_toml.specs.Tables.{PlacedTable}
use Rattle.profile_toml.specs.declared.tables.path.BadEntry.{BadEntry}

-- the second step, if the first gave a value
infixl 10 ◌>>=◌
abbrev pub ◌>>=◌ : {F X Y : Type 0} → Result X F → (X → Result Y F) → Result Y F
Ok x >>= step = step x
Err fault >>= step = Err fault

-- the members have no key but these; else the first other key is the error
abbrev pub known_among : List (List ℕ) → List ℕ → Members → Result (Unit {0}) BadEntry
known_among keys place no_members = Ok tt
known_among keys place (member key value rest) =
    if list_any (bytes_eq key) keys then known_among keys place rest else Err (invalid_key place key)

abbrev pub known : List (List ℕ) → PlacedTable → Result (Unit {0}) BadEntry
known keys table = known_among keys table.place table.members

-- the number of an integer that is not negative
abbrev pub natural_of : ℤ → Option ℕ
natural_of (pos number) = Some number
natural_of (negsuc number) = None

abbrev pub as_natural : Data → Option ℕ
as_natural value = option_and_then natural_of (as_integer value)

-- what a key that must be there holds, if it has the type that is read
abbrev pub required : {A : Type 0}
    → (Data → Option A) → List ℕ → PlacedTable → Result A BadEntry
required reads key table =
    ok_or (option_and_then reads (get_member key table.members)) (invalid_key table.place key)

-- a value of the type that is read, if there is a value
abbrev pub if_given : {A : Type 0}
    → (Data → Option A) → BadEntry → Option Data → Result (Option A) BadEntry
if_given reads bad None = Ok None
if_given reads bad (Some value) = ok_or (reads value) bad >>= λ read. Ok (Some read)

-- what a key that may be missing holds, if it has the type that is read
abbrev pub optional : {A : Type 0}
    → (Data → Option A) → List ℕ → PlacedTable → Result (Option A) BadEntry
optional reads key table =
    if_given reads (invalid_key table.place key) (get_member key table.members)
