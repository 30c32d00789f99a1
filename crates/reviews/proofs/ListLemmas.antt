-- Lists that were filtered or mapped.
use Rattle.std.proofs.Common.{◌≡◌, ℕ, ◌+◌, ◌&&◌, ◌||◌, Bool, true, false, cond, List, [], ◌∷◌, ◌++◌, map, refl, sym, ap, ap₂, ◌∙◌, arith}
use Rattle.std.specs.List.{enumerate_from, filter, list_any, range_with_len}
use Rattle.std.proofs.lemmas.List.FromFn.{map-range_with_len_more}

-- some item of a list that was filtered and then mapped passes a test
pub list_any-filtered :
    {A B : Type 0} (f : A → B) (q : A → Bool) (p : B → Bool) (xs : List A) →
    list_any (λ x. q x && p (f x)) xs ≡ list_any p (map f (filter q xs))
list_any-filtered f q p [] = refl
list_any-filtered {A} f q p (x ∷ xs) = cases (q x) (list_any-filtered f q p xs)
  where
    cases :
        (b : Bool) → list_any (λ y. q y && p (f y)) xs ≡ list_any p (map f (filter q xs)) →
        ((b && p (f x)) || list_any (λ y. q y && p (f y)) xs) ≡ list_any p (map f (cond b (x ∷ filter q xs) (filter q xs)))
    cases true rest = ap (λ b. p (f x) || b) rest
    cases false rest = rest

-- numbering a mapped list maps the numbered one
pub enumerate_from-map :
    {A B : Type 0} (f : A → B) (n : ℕ) (xs : List A) →
    enumerate_from n (map f xs) ≡ map (λ (numbered : ℕ × A). (numbered.0, f numbered.1)) (enumerate_from n xs)
enumerate_from-map f n [] = refl
enumerate_from-map f n (x ∷ xs) = ap (λ rest. (n, f x) ∷ rest) (enumerate_from-map f (n + 1) xs)

-- a list that is mapped twice
pub map-mapped : {A B C : Type 0} (f : A → B) (g : B → C) (xs : List A) → map (λ x. g (f x)) xs ≡ map g (map f xs)
map-mapped f g [] = refl
map-mapped f g (x ∷ xs) = ap (λ rest. g (f x) ∷ rest) (map-mapped f g xs)

-- what is made of the next index comes after the rest
pub map-range_pushed :
    {A : Type 0} (f : ℕ → A) (before : List A) (n : ℕ) (next : A) → next ≡ f n → before ≡ map f (range_with_len 0 n) →
    before ++ next ∷ [] ≡ map f (range_with_len 0 (n + 1))
map-range_pushed {A} f before n next is so_far =
    ap₂ (λ (xs : List A) (x : A). xs ++ x ∷ []) so_far is ∙ sym (map-range_with_len_more f 0 n n (omega arith))
