-- What the target of a request names; this project's profile. Nothing in it is unescaped.
use Rattle.std.specs.Prelude.{ℕ, List, [], ◌∷◌, take, drop, Option, None, Some, ◌==◌, if◌then◌else◌, bytes_eq, codes}

-- the bytes before the first one that is the mark, or all
abbrev pub before : ℕ → List ℕ → List ℕ
before mark [] = []
before mark (byte ∷ bytes) = if byte == mark then [] else byte ∷ before mark bytes

-- rule: Path of a target
-- the bytes before the first `?`, or all
abbrev pub path_in : List ℕ → List ℕ
path_in target = before 63 target

-- rule: Path of a package
-- the name after `/p/`, if the path begins so
unfoldable pub package_in : List ℕ → Option (List ℕ)
package_in path = if bytes_eq (take 3 path) (codes "/p/") then Some (drop 3 path) else None
