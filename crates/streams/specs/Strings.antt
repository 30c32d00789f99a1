-- How a string from outside is printed; this project's profile.
use Rattle.std.specs.Prelude.{ℕ, ◌^◌, ◌+◌, ◌==◌, ◌&&◌, ◌||◌, Bool, false, nat_lt, List, [], ◌∷◌, codes, if◌then◌else◌}
use Rattle.std.specs.Char.{is_ascii_control}
use Rattle.percent_encoding.specs.Percent.{percent_encode}
use Rattle.percent_encoding.specs.declared.ascii_set.AsciiSet.{AsciiSet}

-- the bytes below 32, and 127
abbrev pub ascii_controls : AsciiSet
ascii_controls = record { mask = 2 ^ 127 + 0xffff_ffff }

-- two bytes begin a character from U+0080 to U+009F, which are controls, or from U+2000 to U+203F,
-- some of which set the direction of writing
abbrev pub begins_control : ℕ → ℕ → Bool
begins_control first second = (first == 0xC2 && nat_lt second 0xA0) || (first == 0xE2 && second == 0x80)

-- a control character is among the bytes, before which there is one
abbrev pub has_control_after : ℕ → List ℕ → Bool
has_control_after last [] = false
has_control_after last (byte ∷ rest) =
    is_ascii_control byte || begins_control last byte || has_control_after byte rest

-- the string has a control character
abbrev pub has_control : List ℕ → Bool
has_control string = has_control_after 0 string

-- rule: Shown string
-- the string as it is or, if it has a control character, with each byte that is one or lies outside
-- ASCII as `%` and two hexadecimal digits; the empty string as two quotes
abbrev pub shown_string : List ℕ → List ℕ
shown_string [] = codes "\"\""
shown_string (byte ∷ rest) =
    if has_control (byte ∷ rest) then percent_encode ascii_controls (byte ∷ rest) else byte ∷ rest
