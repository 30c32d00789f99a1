-- What is said of the faults of a profile or a script that are no entry's; this project's profile.
use Rattle.std.specs.Prelude.{◌≡◌, ℕ, ◌+◌, ◌≤◌, ◌==◌, ◌&&◌, ◌||◌, not, Bool, if◌then◌else◌, List, [], ◌∷◌, ◌++◌, codes, decimal, length, nat_eq, nat_lt, take, Option, Some, None}
use Rattle.std.specs.Char.{is_ascii_digit, is_ascii_lowercase}
use Rattle.std.specs.List.{ends_with, list_all, starts_with}
use Rattle.streams.specs.Strings.{shown_string}
use Rattle.advice.specs.Entries.{place_string}
use Rattle.advice.specs.Places.{has_apostrophe, has_quote, string_in}
use Rattle.advice.specs.Spots.{first_in, found_from, value_found}
use Rattle.advice.specs.declared.tables.Kind.TheVariants as kind
use Rattle.advice.specs.declared.faults.MirrorFault.{MirrorFault}
use Rattle.advice.specs.declared.faults.MirrorFault.TheVariants as mirror

-- a byte within a character of UTF-8 that isn't its first one
abbrev pub is_continuation : ℕ → Bool
is_continuation byte = nat_lt 127 byte && nat_lt byte 192

-- rule: Line and column
-- the line and the column after some bytes, if these begin at a line and a column; both count from 1, and a column is
-- a character
abbrev pub place_after : ℕ → ℕ → List ℕ → ℕ × ℕ
place_after line column [] = (line, column)
place_after line column (byte ∷ bytes) =
    if byte == 10 then place_after (line + 1) 1 bytes
    else if is_continuation byte then place_after line column bytes
    else place_after line (column + 1) bytes

-- a file with a line and a column
abbrev pub point_string : List ℕ → ℕ × ℕ → List ℕ
point_string file (line, column) =
    shown_string file ++ (codes ":" ++ (decimal line ++ (codes ":" ++ (decimal column ++ codes ": "))))

-- rule: Advice on a document that is no TOML
-- the line and the column of some place in the string, and why the library can't read it there
abbrev pub IsTomlAdvice : List ℕ → List ℕ → List ℕ → Type 0
IsTomlAdvice file text said =
    (at : ℕ) × (why : List ℕ) × (at ≤ length text)
    × (said ≡ point_string file (place_after 1 1 (take at text)) ++ (shown_string why ++ codes " (omaha explain F1)"))

-- bytes that aren't UTF-8
abbrev pub utf8_advice : List ℕ → List ℕ
utf8_advice file = place_string file None ++ codes "it is no UTF-8: save it as UTF-8 (omaha explain F1)"

-- more edits than a script may have
abbrev pub count_advice : List ℕ → List ℕ
count_advice file =
    place_string file None ++ codes "a script has at most 4096 edits: publish the others by a second one (omaha explain F5)"

-- a value is a string
abbrev pub is_string : List ℕ → Bool
is_string value = has_quote value || has_apostrophe value

-- a string begins with `http://` and ends with `/`
abbrev pub is_base : List ℕ → Bool
is_base string = starts_with nat_eq string (codes "http://") && ends_with nat_eq string (codes "/")

-- a value is no string, or one such
abbrev pub is_codebase : List ℕ → Bool
is_codebase value = not (is_string value) || is_base (string_in value)

-- a byte of a name
abbrev pub is_name_byte : ℕ → Bool
is_name_byte byte = is_ascii_lowercase byte || is_ascii_digit byte || byte == 45

-- what is wrong with a mirror, as it is printed
abbrev pub mirror_string : MirrorFault → List ℕ
mirror_string mirror.Missing = codes "a profile has 1 to 4 mirrors, and their codebases begin with http:// and end with /"
mirror_string mirror.Fifth = codes "a profile has at most 4 mirrors"
mirror_string (mirror.Codebase value) =
    codes "codebase is \"" ++ (shown_string value.now ++ codes "\": it begins with http:// and ends with /")
mirror_string (mirror.Name value) =
    codes "name is \"" ++ (shown_string value.now ++ codes "\": a name is 1 to 32 of a-z 0-9 -")
mirror_string mirror.Other =
    codes "a name is 1 to 32 of a-z 0-9 - and no other mirror's, a codebase at most 256 visible characters, a budget at most 1152921504606846976"

-- by the values of its codebase and its name
unfoldable pub values_string : List ℕ → List ℕ → List ℕ
values_string codebase name =
    if not (is_codebase codebase) then
    codes "codebase is \"" ++ (shown_string (string_in codebase) ++ codes "\": it begins with http:// and ends with /")
    else if not (list_all is_name_byte (string_in name)) then
    codes "name is \"" ++ (shown_string (string_in name) ++ codes "\": a name is 1 to 32 of a-z 0-9 -")
    else mirror_string mirror.Other

-- the values of the codebase and the name of a mirror, from the line after its header on; or nothing
unfoldable pub codebase_in : List (List ℕ) → ℕ → List ℕ
codebase_in lines first = value_found (found_from lines (codes "codebase") (Some first))

unfoldable pub name_in : List (List ℕ) → ℕ → List ℕ
name_in lines first = value_found (found_from lines (codes "name") (Some first))

-- by the index and the line after its header
abbrev pub wrong_from : List (List ℕ) → ℕ → ℕ → List ℕ
wrong_from lines index first =
    if index == 4 then mirror_string mirror.Fifth
    else values_string (codebase_in lines first) (name_in lines first)

abbrev pub wrong_string : List (List ℕ) → ℕ → Option ℕ → List ℕ
wrong_string lines index None = mirror_string mirror.Missing
wrong_string lines index (Some first) = wrong_from lines index first

-- a mirror with the line of its header
abbrev pub mirror_at : List ℕ → List (List ℕ) → ℕ → Option ℕ → List ℕ
mirror_at file lines index first =
    place_string file first
    ++ (codes "mirror[" ++ (decimal index ++ (codes "]: " ++ (wrong_string lines index first ++ codes " (omaha explain F4)"))))

-- rule: Advice on a mirror
-- the line of the mirror of an index, and which key is invalid
abbrev pub mirror_advice : List ℕ → List (List ℕ) → ℕ → List ℕ
mirror_advice file lines index = mirror_at file lines index (first_in lines kind.Mirror index 0)
