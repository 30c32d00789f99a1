-- Lists whose items ascend by a key, as releases do by version and differentials by their pair.
use Rattle.std.specs.Prelude.{◌≡◌, ℕ, ◌&&◌, Bool, true, false, not, List, [], ◌∷◌, insert}
use Rattle.std.specs.List.{list_all, list_any, position_or_len}

-- `below` is a strict total order of keys, and `same` tests their equality
pub record IsOrder {K : Type 0} (below same : K → K → Bool) : Type 0 where
  pub irreflexive : (k : K) → below k k ≡ false
  pub transitive : (i j k : K) → below i j ≡ true → below j k ≡ true → below i k ≡ true
  pub total : (j k : K) → below j k ≡ false → below k j ≡ false → j ≡ k
  pub equal : (j k : K) → same j k ≡ true → j ≡ k
  pub reflexive : (k : K) → same k k ≡ true

-- each item comes before all those after it
abbrev pub ascend : {A : Type 0} → (A → A → Bool) → List A → Bool
ascend before [] = true
ascend before (x ∷ xs) = list_all (before x) xs && ascend before xs

-- the place of a key: before the first item whose key is not below it
abbrev pub place_in : {K A : Type 0} → (K → K → Bool) → (A → K) → K → List A → ℕ
place_in below key k xs = position_or_len (λ x. not (below (key x) k)) xs

-- the list with one more item, in the place of its key
abbrev pub put_in : {K A : Type 0} → (K → K → Bool) → (A → K) → A → List A → List A
put_in below key item xs = insert xs (place_in below key (key item) xs) item

-- some item has the key
abbrev pub has_in : {K A : Type 0} → (K → K → Bool) → (A → K) → K → List A → Bool
has_in same key k xs = list_any (λ x. same k (key x)) xs
