-- How the path of a key is written, as `app[0].release[2].size`; this project's profile.
use Rattle.std.specs.Prelude.{ℕ, List, [], ◌++◌, codes, decimal}
use Rattle.streams.specs.Strings.{shown_string}
use Rattle.profile_toml.specs.declared.tables.path.BadEntry.{BadEntry}
use Rattle.profile_toml.specs.declared.tables.path.Place.{Place}
use Rattle.profile_toml.specs.declared.tables.path.Place.TheVariants as at

-- an element of a list: the list's path with the element's index, counted from 0
abbrev pub indexed : List ℕ → ℕ → List ℕ
indexed path index = path ++ codes "[" ++ decimal index ++ codes "]"

-- what comes before the keys of a table: nothing in those of the document, else the element's path
-- and a dot
abbrev pub prefix : Place → List ℕ
prefix at.Top = []
prefix (at.Element list index) = indexed list.now index ++ codes "."

-- rule: Path of a key
-- the path of a key of the table at a place: the key is shown without control characters, so a path is one line,
-- as `laws::paths` says
abbrev pub path_of : List ℕ → List ℕ → List ℕ
path_of place key = place ++ shown_string key

-- the error of a key, and of an element of the list at a path
abbrev pub invalid_key : List ℕ → List ℕ → BadEntry
invalid_key place key = record { path = path_of place key }

abbrev pub invalid_element : List ℕ → ℕ → BadEntry
invalid_element list index = record { path = indexed list index }
