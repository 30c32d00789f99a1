-- The fields of a head, as a list of names and values (RFC 9110, section 5).
use Rattle.std.specs.Prelude.{ℕ, Bool, List, [], ◌∷◌, map, flat_map, bytes_eq, if◌then◌else◌}
use Rattle.std.specs.Char.{to_ascii_lowercase}

-- a name, and a value without the white space around it
abbrev pub Pair : Type 0
Pair = List ℕ × List ℕ

-- two words are the same, whatever their case in ASCII
abbrev pub is_same_word : List ℕ → List ℕ → Bool
is_same_word first second = bytes_eq (map to_ascii_lowercase first) (map to_ascii_lowercase second)

-- the field has this name, in any case
abbrev pub is_named : List ℕ → Pair → Bool
is_named name field = is_same_word field.0 name

-- the values of the fields with this name, in order
abbrev pub values_named : List ℕ → List Pair → List (List ℕ)
values_named name fields = flat_map (λ field. if is_named name field then field.1 ∷ [] else []) fields
