-- Whether a connection ends after the reply (RFC 9112, section 9.6).
use Rattle.std.specs.Prelude.{ℕ, Bool, ◌||◌, ◌&&◌, ◌==◌, List, [], ◌∷◌, if◌then◌else◌, codes}
use Rattle.std.specs.List.{list_any}
use Rattle.httparse.specs.Ascii.{comma}
use Rattle.httparse.specs.Grammar.{trim_ows}
use Rattle.http_wire.specs.Fields.{Pair, is_named, is_same_word}

-- the parts, with a byte more at the front of the first
abbrev pub begin_first : ℕ → List (List ℕ) → List (List ℕ)
begin_first byte [] = (byte ∷ []) ∷ []
begin_first byte (part ∷ parts) = (byte ∷ part) ∷ parts

-- the parts of a value between its commas
abbrev pub parts_of : List ℕ → List (List ℕ)
parts_of [] = [] ∷ []
parts_of (byte ∷ bytes) = if byte == comma then [] ∷ parts_of bytes else begin_first byte (parts_of bytes)

-- the part is the word `close`, in any case, with spaces and tabs around it or none
abbrev pub is_close : List ℕ → Bool
is_close part = is_same_word (trim_ows part) (codes "close")

-- the value lists `close`
unfoldable pub lists_close : List ℕ → Bool
lists_close value = list_any is_close (parts_of value)

-- the field is a `Connection` that lists `close`
abbrev pub closes : Pair → Bool
closes field = is_named (codes "connection") field && lists_close field.1

-- rule: End of a connection
-- the version is 1.0, or a field asks for it
abbrev pub closes_after : ℕ → List Pair → Bool
closes_after minor fields = (minor == 0) || list_any closes fields
