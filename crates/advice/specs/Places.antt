-- On which line of a TOML file a key is, by a rule over its lines; this project's profile.
use Rattle.std.specs.Prelude.{ℕ, ◌+◌, ◌-◌, ◌==◌, Bool, if◌then◌else◌, List, [], ◌∷◌, codes, length, nat_eq, nat_lt, Option, Some, None}
use Rattle.std.specs.List.{after_first, before_first, starts_with}
use Rattle.std.specs.Str.{bytes_eq, trim}
use Rattle.advice.specs.declared.places.FoundKey.{FoundKey}

-- a line begins with a string, after white space
abbrev pub begins : List ℕ → List ℕ → Bool
begins header line = starts_with nat_eq (trim line) header

-- a line begins a table
abbrev pub begins_table : List ℕ → Bool
begins_table line = begins (codes "[") line

-- the sign between a key and its value
abbrev pub is_equals : ℕ → Bool
is_equals byte = byte == 61

-- a value, or dots for one of more than 300 bytes
abbrev pub shortened : List ℕ → List ℕ
shortened value = if nat_lt 300 (length value) then codes ".." else value

-- the key and the value of a line
abbrev pub key_of : List ℕ → List ℕ
key_of line = trim (before_first is_equals line)

abbrev pub value_of : List ℕ → List ℕ
value_of line = shortened (trim (after_first is_equals line))

-- a quote, and an apostrophe
abbrev pub is_quote : ℕ → Bool
is_quote byte = byte == 34

abbrev pub is_apostrophe : ℕ → Bool
is_apostrophe byte = byte == 39

-- a value begins with one
abbrev pub has_quote : List ℕ → Bool
has_quote value = starts_with nat_eq value (codes "\"")

abbrev pub has_apostrophe : List ℕ → Bool
has_apostrophe value = starts_with nat_eq value (codes "'")

-- rule: String of a value
-- what is between the quote or the apostrophe that a value begins with and the next one, else nothing
abbrev pub string_in : List ℕ → List ℕ
string_in value =
    if has_quote value then before_first is_quote (after_first is_quote value)
    else if has_apostrophe value then before_first is_apostrophe (after_first is_apostrophe value)
    else []

-- rule: Line of a table
-- the index of the line that begins with a header after so many that do, if so many lines are before these
abbrev pub header_after : List ℕ → ℕ → ℕ → List (List ℕ) → Option ℕ
header_after header before skipped [] = None
header_after header before skipped (line ∷ lines) =
    if begins header line then
    (if skipped == 0 then Some before else header_after header (before + 1) (skipped - 1) lines)
    else header_after header (before + 1) skipped lines

-- a line, from 1, and the value that it sets
pub record Found : Type 0 where
  pub line : ℕ
  pub value : List ℕ

-- what such a line in memory says
abbrev pub found_seen : FoundKey → Found
found_seen found = record { line = found.line; value = found.value.now }

-- rule: Line of a key
-- the first line that sets a key, before the next table; so many lines are before these
abbrev pub key_after : List ℕ → ℕ → List (List ℕ) → Option Found
key_after key before [] = None
key_after key before (line ∷ lines) =
    if begins_table line then None
    else if bytes_eq (key_of line) key then Some (record { line = before + 1; value = value_of line })
    else key_after key (before + 1) lines
