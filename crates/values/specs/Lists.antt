-- What is said of lists beyond the standard library: an item changed in place, keys used once, and items
-- that are cloned exactly.
use Rattle.std.specs.Prelude.{◌≡◌, ℕ, ◌≤◌, Bool, List, [], ◌∷◌, count_by, if◌then◌else◌}

-- the list with its first item that passes changed
abbrev pub change : {A : Type 0} → (A → Bool) → (A → A) → List A → List A
change passes changed [] = []
change passes changed (x ∷ xs) =
    if passes x then changed x ∷ xs else x ∷ change passes changed xs

-- at most one item of the list has each key
abbrev pub IsOnce : {K A : Type 0} → (K → A → Bool) → List A → Type 0
IsOnce {K} has items = (key : K) → count_by (has key) items ≤ 1

-- a clone of an item is the item
abbrev pub IsExact : {A : Type 0} → (A → A → Type 0) → Type 0
IsExact {A} is_clone = (item copy : A) → is_clone item copy → copy ≡ item
