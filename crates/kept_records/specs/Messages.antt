-- The first words of a message; this project's profile.
use Rattle.std.specs.Prelude.{ℕ, ◌&&◌, List, if◌then◌else◌, map, nat_le, take}

-- a space in place of a byte that is no printable character of ASCII
abbrev pub as_printable : ℕ → ℕ
as_printable byte = if nat_le 32 byte && nat_le byte 126 then byte else 32

-- rule: First words of a message
-- its first 60 bytes, with a space in place of each that doesn't print
abbrev pub words_of : List ℕ → List ℕ
words_of message = map as_printable (take 60 message)
