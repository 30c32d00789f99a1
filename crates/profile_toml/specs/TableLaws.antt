-- What holds of every path; this project's profile.
use Rattle.std.specs.Prelude.{◌≡◌, ℕ, ◌==◌, ◌||◌, ◌++◌, Bool, List, [], ◌∷◌, codes, false}
use Rattle.std.specs.List.{list_any}
use Rattle.profile_toml.specs.Paths.{indexed, path_of}

-- the byte ends a line: a line feed or a carriage return
abbrev pub ends_line : ℕ → Bool
ends_line byte = byte == 10 || byte == 13

-- no line ends in the string
abbrev pub IsOneLine : List ℕ → Type 0
IsOneLine text = list_any ends_line text ≡ false

-- where a table is below these steps, each a list's key and an index, the innermost first
abbrev pub place_below : List (List ℕ × ℕ) → List ℕ
place_below [] = []
place_below (step ∷ outer) = indexed (path_of (place_below outer) step.0) step.1 ++ codes "."

-- the path of a key is one line, wherever its table is and whatever bytes the key has
abbrev pub KeysAreOneLine : Type 0
KeysAreOneLine =
    (steps : List (List ℕ × ℕ)) (key : List ℕ) → IsOneLine (path_of (place_below steps) key)

-- the path of an element of a key's list is one line
abbrev pub ElementsAreOneLine : Type 0
ElementsAreOneLine =
    (steps : List (List ℕ × ℕ)) (key : List ℕ) (index : ℕ) →
    IsOneLine (indexed (path_of (place_below steps) key) index)
