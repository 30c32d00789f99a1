-- Versions, what strings spell them, and their order: this project's profile of the versions that the
-- Omaha protocol leaves to the application. A version is the list of its sixteen numbers.
use Rattle.std.specs.Prelude.{ℕ, ◌-◌, ◌^◌, Bool, List, [], ◌∷◌, ◌++◌, map, max, min, reverse, take, take_while, ◌&&◌, ◌==◌, if◌then◌else◌, length, nat_lt, nat_le, replicate, slice_index, Option, Some, None, unwrap_or}
use Rattle.std.specs.Fmt.{decimal}
use Rattle.std.specs.List.{join_with_byte, slice_split}
use Rattle.std.specs.Option.{option_map}
use Rattle.std.specs.Ordering.{is_lt, nat_cmp}
use Rattle.std.specs.Cmp.Lexicographic.{slice_cmp}
use Rattle.std.specs.Str.{all_ascii_digits, bytes_eq}
use Rattle.std.specs.Str.Parse.{digits_value}
use Rattle.catalogue.specs.declared.spelling.Form.{Form}
use Rattle.catalogue.specs.declared.spelling.Form.TheVariants.{Plain, Lenient}

-- the strings between a string's dots
abbrev pub parts_of : List ℕ → List (List ℕ)
parts_of text = slice_split (λ byte. byte == 46) text

-- whether a part is decimal digits, at least one, of a number up to 4294967295
abbrev pub is_number : List ℕ → Bool
is_number part =
    nat_lt 0 (length part) && all_ascii_digits part && nat_lt (digits_value 10 part) (2 ^ 32)

-- the number that a part spells, leading zeros taken
abbrev pub number_of : List ℕ → Option ℕ
number_of part = if is_number part then Some (digits_value 10 part) else None

-- whether a zero is before further digits
abbrev pub has_leading_zero : List ℕ → Bool
has_leading_zero part = nat_lt 1 (length part) && (slice_index part 0 == 48)

-- the number that a part spells in a form
abbrev pub number_in : Form → List ℕ → Option ℕ
number_in Plain part = if has_leading_zero part then None else number_of part
number_in Lenient part = number_of part

-- how many components a form allows at most
abbrev pub max_components : Form → ℕ
max_components Plain = 4
max_components Lenient = 16

-- a number before others, if all of them are there
abbrev pub prepended : Option ℕ → Option (List ℕ) → Option (List ℕ)
prepended None numbers = None
prepended (Some number) None = None
prepended (Some number) (Some numbers) = Some (number ∷ numbers)

-- the numbers that parts spell, if each of them spells one
abbrev pub numbers_of : Form → List (List ℕ) → Option (List ℕ)
numbers_of form [] = Some []
numbers_of form (part ∷ parts) = prepended (number_in form part) (numbers_of form parts)

-- the sixteen numbers of a version: those that a string leaves out are 0
abbrev pub padded : List ℕ → List ℕ
padded numbers = numbers ++ replicate (16 - length numbers) 0

-- the version that a string spells in a form, and how many components the string writes
unfoldable pub components_of : Form → List ℕ → Option (List ℕ × ℕ)
components_of form text =
    if nat_le (length (parts_of text)) (max_components form) then
    option_map (λ numbers. (padded numbers, length numbers)) (numbers_of form (parts_of text))
    else None

-- rule: Version of a publisher's string
-- the version that a publisher's string spells, and how many components the string writes
unfoldable pub version_of : List ℕ → Option (List ℕ × ℕ)
version_of text = components_of Plain text

-- the version that a client's string spells, and how many components the string writes, if it spells one
unfoldable pub client_version_of : List ℕ → Option (List ℕ × ℕ)
client_version_of text = components_of Lenient text

-- the first components of a version, so many of its sixteen, are those of another
abbrev pub begins_as : ℕ → List ℕ → List ℕ → Bool
begins_as count version other = bytes_eq (take (min count 16) version) (take (min count 16) other)

-- the lowest version
abbrev pub zero_version : List ℕ
zero_version = replicate 16 0

-- rule: Version of a client's string
-- the version that a client's string counts as: `0` if it spells none
unfoldable pub lenient_version_of : List ℕ → List ℕ
lenient_version_of text =
    unwrap_or (option_map (λ read. read.0) (components_of Lenient text)) zero_version

-- rule: Order of versions
-- whether a version is below another: the first numbers that differ decide
abbrev pub is_below : List ℕ → List ℕ → Bool
is_below lower upper = is_lt (slice_cmp nat_cmp lower upper)

-- how many zeros are at the end of a version
abbrev pub zeros_at_end : List ℕ → ℕ
zeros_at_end version = length (take_while (λ number. number == 0) (reverse version))

-- the numbers that print: all but the zeros at the end, and at least two
abbrev pub shown_components : List ℕ → List ℕ
shown_components version = take (max (length version - zeros_at_end version) 2) version

-- rule: Printed version
-- a printed version
unfoldable pub printed : List ℕ → List ℕ
printed version = join_with_byte 46 (map decimal (shown_components version))
