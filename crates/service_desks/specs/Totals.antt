-- The lines of the mirrors' totals; this project's profile.
use Rattle.std.specs.Prelude.{ℕ, List, ◌++◌, codes, decimal, flat_map, map}
use Rattle.std.specs.List.{zip}
use Rattle.catalogue.specs.declared.mirror.Mirror.{Mirror}

-- the names of mirrors
abbrev pub names_of : List Mirror → List (List ℕ)
names_of mirrors = map (λ (mirror : Mirror). mirror.name) mirrors

-- the line of a mirror: its name, a space and its total
abbrev pub total_line : List ℕ × ℕ → List ℕ
total_line row = row.0 ++ codes " " ++ decimal row.1 ++ codes "\n"

-- rule: Lines of the totals
-- a line for each mirror, in order
abbrev pub totals_string : List (List ℕ) → List ℕ → List ℕ
totals_string names totals = flat_map total_line (zip names totals)
