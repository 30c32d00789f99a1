-- The forms of the parts of a line; this project's profile. The parts are separated by one space.
use Rattle.std.specs.Prelude.{ℕ, ◌^◌, ◌==◌, ◌&&◌, ◌||◌, not, Bool, if◌then◌else◌, List, length, nat_lt, slice_index, Option, None, Some}
use Rattle.std.specs.Char.{is_ascii_digit}
use Rattle.std.specs.List.{after_first, before_first, list_all}
use Rattle.std.specs.Option.{is_some}
use Rattle.std.specs.Str.{bytes_eq}
use Rattle.std.specs.Str.Parse.{digits_value}
use Rattle.catalogue.specs.Forms.{has_length}
use Rattle.catalogue.specs.Versions.{version_of}

-- a space
abbrev pub is_space : ℕ → Bool
is_space byte = byte == 32

-- what is before the first space of a line, and what is after it; nothing if it has none
abbrev pub first_of : List ℕ → List ℕ
first_of line = before_first is_space line

abbrev pub rest_of : List ℕ → List ℕ
rest_of line = after_first is_space line

-- a zero before further digits
abbrev pub has_leading_zero : List ℕ → Bool
has_leading_zero digits = nat_lt 1 (length digits) && (slice_index digits 0 == 48)

-- one to sixteen digits without leading zeros
abbrev pub is_plain : List ℕ → Bool
is_plain digits =
    has_length 1 16 digits && list_all is_ascii_digit digits && not (has_leading_zero digits)

-- rule: Number of a certificate
-- the number below a bound that digits without leading zeros spell
abbrev pub number_below : ℕ → List ℕ → Option ℕ
number_below bound digits =
    if is_plain digits && nat_lt (digits_value 10 digits) bound then Some (digits_value 10 digits) else None

-- prices are below this
abbrev pub price_bound : ℕ
price_bound = 2 ^ 50

-- numbers of rows are below this
abbrev pub count_bound : ℕ
count_bound = 513

-- the string is a publisher's version
abbrev pub is_version : List ℕ → Bool
is_version text = is_some (version_of text)

-- one of two words
abbrev pub is_either : List ℕ → List ℕ → List ℕ → Bool
is_either one other text = bytes_eq text one || bytes_eq text other
