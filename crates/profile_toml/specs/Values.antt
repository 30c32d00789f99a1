-- The values of a script's keys, as an operator types them; this project's format.
use Rattle.std.specs.Prelude.{ℕ, ◌==◌, ◌&&◌, ◌||◌, not, Bool, if◌then◌else◌, List, [], ◌∷◌, ◌++◌, codes, length, nat_lt}
use Rattle.std.specs.Char.{is_ascii_digit, is_ascii_graphic}
use Rattle.std.specs.List.{flat_map, list_all}
use Rattle.std.specs.Str.{bytes_eq}
use Rattle.toml_writer.specs.Text.{string_text}

-- decimal digits, at least one
abbrev pub is_natural : List ℕ → Bool
is_natural value = nat_lt 0 (length value) && list_all is_ascii_digit value

abbrev pub is_flag : List ℕ → Bool
is_flag value = bytes_eq value (codes "true") || bytes_eq value (codes "false")

-- the value of the key is written without quotes: a number, or a flag
abbrev pub is_bare : List ℕ → List ℕ → Bool
is_bare key value =
    if bytes_eq key (codes "size") || bytes_eq key (codes "share") then is_natural value
    else (bytes_eq key (codes "on") && is_flag value)

-- the byte is the same between quotes: visible, and neither a quote nor a backslash
abbrev pub is_plain : ℕ → Bool
is_plain byte = is_ascii_graphic byte && not (byte == 34) && not (byte == 92)

-- the value of the key is a list of names
abbrev pub are_names : List ℕ → List ℕ → Bool
are_names key value = bytes_eq key (codes "cohorts") && list_all is_plain value

-- a byte of a list of names: a comma ends one and begins the next
abbrev pub name_bytes : ℕ → List ℕ
name_bytes byte = if byte == 44 then codes "\", \"" else byte ∷ []

-- the list of the names that commas are between; of no name if there is nothing
abbrev pub list_string : List ℕ → List ℕ
list_string [] = codes "[]"
list_string (byte ∷ rest) = codes "[\"" ++ (flat_map name_bytes (byte ∷ rest) ++ codes "\"]")

-- rule: Value of a script's key
-- a number or a flag as it is, names as a list, and all else as a string
abbrev pub value_string : List ℕ → List ℕ → List ℕ
value_string key value =
    if is_bare key value then value
    else (if are_names key value then list_string value else string_text value)
