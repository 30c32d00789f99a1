-- The bytes of a script that an operator types; this project's format.
use Rattle.std.specs.Prelude.{ℕ, ◌==◌, if◌then◌else◌, Bool, List, [], ◌++◌, codes, decimal, length, nat_lt, Result, Ok}
use Rattle.std.specs.List.{after_first, before_first, flat_map, position_or_len}
use Rattle.std.specs.Str.{bytes_eq}
use Rattle.toml_writer.specs.Text.{key_text, string_text}
use Rattle.profile_toml.specs.Fields.{◌>>=◌}
use Rattle.profile_toml.specs.Reading.{script_of_bytes}
use Rattle.profile_toml.specs.declared.fault.ProfileFault.{ProfileFault}
use Rattle.profile_toml.specs.Values.{value_string}

-- the sign between a key and its value
abbrev pub is_equals : ℕ → Bool
is_equals byte = byte == 61

-- the word is a key with a value
abbrev pub is_pair : List ℕ → Bool
is_pair word = nat_lt (position_or_len is_equals word) (length word)

-- the beginning of an edit: what it does; nothing for two dashes
abbrev pub edit_string : List ℕ → List ℕ
edit_string name =
    if bytes_eq name (codes "--") then [] else (codes "\n[[edit]]\ndo = " ++ (string_text name ++ codes "\n"))

-- a key with its value
abbrev pub pair_string : List ℕ → List ℕ → List ℕ
pair_string key value = key_text key ++ (codes " = " ++ (value_string key value ++ codes "\n"))

-- rule: Words of a script
-- the lines of a word: a key with the value after the first `=`, or the beginning of an edit
abbrev pub word_string : List ℕ → List ℕ
word_string word =
    if is_pair word then pair_string (before_first is_equals word) (after_first is_equals word) else edit_string word

abbrev pub words_string : List (List ℕ) → List ℕ
words_string words = flat_map word_string words

-- the schema, and the number of the edition that the script is for
abbrev pub head_string : ℕ → List ℕ
head_string base = codes "schema = 2\nbase = " ++ (decimal base ++ codes "\n")

-- the bytes of what is typed
abbrev pub script_string : ℕ → List (List ℕ) → List ℕ
script_string base words = head_string base ++ words_string words

-- rule: Typed script
-- the bytes, if they are read as a script; else the fault of reading them
abbrev pub script_written : ℕ → List (List ℕ) → Result (List ℕ) ProfileFault
script_written base words = script_of_bytes (script_string base words) >>= λ script. Ok (script_string base words)
