-- Strings within markup: XML 1.0, sections 2.2 and 2.4, and HTML.
use Rattle.std.specs.Prelude.{ℕ, ◌==◌, ◌&&◌, ◌||◌, nat_lt, Bool, if◌then◌else◌, List, chars, codes, encode_utf8, flat_map, Option, None, Some}
use Rattle.std.specs.Option.{option_map_or}

-- a control character, or one of the two others that XML forbids
abbrev pub is_unwritable : ℕ → Bool
is_unwritable c = nat_lt c 32 || (nat_lt 126 c && nat_lt c 160) || c == 65534 || c == 65535

-- the entity in place of a character of markup: `&`, `<`, `>`, `"` and `'`
abbrev pub entity_of : ℕ → Option (List ℕ)
entity_of c =
    if c == 38 then Some (codes "&amp;") else
    if c == 60 then Some (codes "&lt;") else
    if c == 62 then Some (codes "&gt;") else
    if c == 34 then Some (codes "&quot;") else
    if c == 39 then Some (codes "&#39;") else None

-- the character that is written in place of one without an entity: U+FFFD if it can't be written
abbrev pub mark_of : ℕ → ℕ
mark_of c = if is_unwritable c then 65533 else c

-- the bytes of a character
abbrev pub escaped_char : ℕ → List ℕ
escaped_char c = option_map_or (λ entity. entity) (entity_of c) (encode_utf8 (mark_of c))

-- rule: Escaped string
-- the bytes of each character of a string, in their order
abbrev pub escaped_string : List ℕ → List ℕ
escaped_string value = flat_map escaped_char (chars value)
