-- Tests of lists, and of lists that are joined.
use Rattle.std.proofs.Common.{◌≡◌, ℕ, suc, ◌<◌, ◌&&◌, ◌++◌, Bool, true, false, cond, List, [], ◌∷◌, length, get_or, map, refl, sym, ap, ◌∙◌, arith}
use Rattle.std.specs.List.{filter, flat_map}
use Rattle.std.proofs.lemmas.List.Elements.{filter-append}

-- no item passes
pub filter-nothing :
    {A : Type 0} (p : A → Bool) (xs : List A) (d : A) →
    ((k : ℕ) → k < length xs → p (get_or xs k d) ≡ false) →
    filter p xs ≡ []
filter-nothing p [] d none = refl
filter-nothing p (x ∷ xs) d none =
    ap (λ b. cond b (x ∷ filter p xs) (filter p xs)) (none 0 (omega arith))
    ∙ filter-nothing p xs d (λ k within. none (suc k) (omega arith))

-- two tests that agree at each item
pub filter-agree :
    {A : Type 0} (p q : A → Bool) (xs : List A) (d : A) →
    ((k : ℕ) → k < length xs → p (get_or xs k d) ≡ q (get_or xs k d)) →
    filter p xs ≡ filter q xs
filter-agree p q [] d agree = refl
filter-agree {A} p q (x ∷ xs) d agree =
    ap (λ b. cond b (x ∷ filter p xs) (filter p xs)) (agree 0 (omega arith))
    ∙ ap (λ (ys : List A). cond (q x) (x ∷ ys) ys) (filter-agree p q xs d (λ k within. agree (suc k) (omega arith)))

-- all items pass, or none
pub filter-same : {A : Type 0} (b : Bool) (xs : List A) → filter (λ (x : A). b) xs ≡ cond b xs []
filter-same {A} true [] = refl
filter-same {A} true (x ∷ xs) = ap (λ (ys : List A). x ∷ ys) (filter-same true xs)
filter-same {A} false [] = refl
filter-same {A} false (x ∷ xs) = filter-same false xs

-- two tests, in either order
pub filter-swap : {A : Type 0} (p q : A → Bool) (xs : List A) → filter p (filter q xs) ≡ filter q (filter p xs)
filter-swap p q [] = refl
filter-swap {A} p q (x ∷ xs) = cases (p x) (q x) refl refl (filter-swap p q xs)
  where
    cases :
        (b c : Bool) → p x ≡ b → q x ≡ c → filter p (filter q xs) ≡ filter q (filter p xs) →
        filter p (cond c (x ∷ filter q xs) (filter q xs)) ≡ filter q (cond b (x ∷ filter p xs) (filter p xs))
    cases true true here there rest =
        ap (λ b. cond b (x ∷ filter p (filter q xs)) (filter p (filter q xs))) here
        ∙ ap (λ (ys : List A). x ∷ ys) rest
        ∙ sym (ap (λ c. cond c (x ∷ filter q (filter p xs)) (filter q (filter p xs))) there)
    cases true false here there rest =
        rest ∙ sym (ap (λ c. cond c (x ∷ filter q (filter p xs)) (filter q (filter p xs))) there)
    cases false true here there rest =
        ap (λ b. cond b (x ∷ filter p (filter q xs)) (filter p (filter q xs))) here ∙ rest
    cases false false here there rest = rest

-- a test of joined lists
pub filter-flat_map :
    {A B : Type 0} (p : B → Bool) (f : A → List B) (xs : List A) →
    filter p (flat_map f xs) ≡ flat_map (λ x. filter p (f x)) xs
filter-flat_map p f [] = refl
filter-flat_map {A} {B} p f (x ∷ xs) =
    filter-append p (f x) (flat_map f xs)
    ∙ ap (λ (ys : List B). filter p (f x) ++ ys) (filter-flat_map p f xs)

-- joined lists of at most one item each
pub flat_map-one :
    {A B : Type 0} (f : A → List B) (q : A → Bool) (g : A → B) (xs : List A) (d : A) →
    ((k : ℕ) → k < length xs → f (get_or xs k d) ≡ cond (q (get_or xs k d)) (g (get_or xs k d) ∷ []) []) →
    flat_map f xs ≡ map g (filter q xs)
flat_map-one f q g [] d each = refl
flat_map-one {A} {B} f q g (x ∷ xs) d each =
    ap (λ (ys : List B). ys ++ flat_map f xs) (each 0 (omega arith))
    ∙ ap (λ (ys : List B). cond (q x) (g x ∷ []) [] ++ ys)
    (flat_map-one f q g xs d (λ k within. each (suc k) (omega arith)))
    ∙ cases (q x)
  where
    cases :
        (b : Bool) →
        cond b (g x ∷ []) [] ++ map g (filter q xs) ≡ map g (cond b (x ∷ filter q xs) (filter q xs))
    cases true = refl
    cases false = refl

-- joined lists of which none has an item
pub flat_map-nothing :
    {A B : Type 0} (f : A → List B) (xs : List A) (d : A) →
    ((k : ℕ) → k < length xs → f (get_or xs k d) ≡ []) →
    flat_map f xs ≡ []
flat_map-nothing f [] d none = refl
flat_map-nothing {A} {B} f (x ∷ xs) d none =
    ap (λ (ys : List B). ys ++ flat_map f xs) (none 0 (omega arith))
    ∙ flat_map-nothing f xs d (λ k within. none (suc k) (omega arith))

-- a test after a map, after another test
pub filter-map_filter :
    {A B : Type 0} (p : B → Bool) (f : A → B) (q r : A → Bool) →
    ((x : A) → p (f x) ≡ r x) →
    (xs : List A) → filter p (map f (filter q xs)) ≡ map f (filter (λ x. q x && r x) xs)
filter-map_filter p f q r same [] = refl
filter-map_filter {A} {B} p f q r same (x ∷ xs) = cases (q x) (r x) (same x) (filter-map_filter p f q r same xs)
  where
    cases :
        (b c : Bool) → p (f x) ≡ c →
        filter p (map f (filter q xs)) ≡ map f (filter (λ y. q y && r y) xs) →
        filter p (map f (cond b (x ∷ filter q xs) (filter q xs)))
        ≡ map f (cond (b && c) (x ∷ filter (λ y. q y && r y) xs) (filter (λ y. q y && r y) xs))
    cases true true here rest =
        ap (λ b. cond b (f x ∷ filter p (map f (filter q xs))) (filter p (map f (filter q xs)))) here
        ∙ ap (λ (ys : List B). f x ∷ ys) rest
    cases true false here rest =
        ap (λ b. cond b (f x ∷ filter p (map f (filter q xs))) (filter p (map f (filter q xs)))) here ∙ rest
    cases false c here rest = rest

-- a test that gives the same of all items of a map
pub filter-map_same :
    {A B : Type 0} (p : B → Bool) (f : A → B) (b : Bool) →
    ((x : A) → p (f x) ≡ b) →
    (xs : List A) → filter p (map f xs) ≡ cond b (map f xs) []
filter-map_same p f true same [] = refl
filter-map_same p f false same [] = refl
filter-map_same {A} {B} p f true same (x ∷ xs) =
    ap (λ b. cond b (f x ∷ filter p (map f xs)) (filter p (map f xs))) (same x)
    ∙ ap (λ (ys : List B). f x ∷ ys) (filter-map_same p f true same xs)
filter-map_same {A} {B} p f false same (x ∷ xs) =
    ap (λ b. cond b (f x ∷ filter p (map f xs)) (filter p (map f xs))) (same x)
    ∙ filter-map_same p f false same xs

-- two tests one after the other
pub filter-filter :
    {A : Type 0} (p q : A → Bool) (xs : List A) →
    filter p (filter q xs) ≡ filter (λ x. p x && q x) xs
filter-filter p q [] = refl
filter-filter {A} p q (x ∷ xs) = cases (p x) (q x) refl (filter-filter p q xs)
  where
    cases :
        (b d : Bool) → p x ≡ b → filter p (filter q xs) ≡ filter (λ y. p y && q y) xs →
        filter p (cond d (x ∷ filter q xs) (filter q xs))
        ≡ cond (b && d) (x ∷ filter (λ y. p y && q y) xs) (filter (λ y. p y && q y) xs)
    cases true true here rest =
        ap (λ b. cond b (x ∷ filter p (filter q xs)) (filter p (filter q xs))) here
        ∙ ap (λ (ys : List A). x ∷ ys) rest
    cases true false here rest = rest
    cases false true here rest =
        ap (λ b. cond b (x ∷ filter p (filter q xs)) (filter p (filter q xs))) here ∙ rest
    cases false false here rest = rest
