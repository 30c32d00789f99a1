-- Items between two indexes: tests that pass there alone.
use Rattle.std.proofs.Common.{◌≡◌, ℕ, zero, suc, ◌+◌, ◌-◌, ◌<◌, ◌≤◌, ◌||◌, Bool, false, cond, List, [], ◌∷◌, length, get_or, take, drop, refl, sym, ap, ◌∙◌, arith}
use Rattle.std.specs.List.{filter, list_any}
use Rattle.std.proofs.lemmas.List.{drop-take, take-take}
use Rattle.payload_graph.specs.Net.{between}

-- the one test passes between two indexes as the other does, and nowhere else
pub record AgreeBetween {A B : Type 0} (p : A → Bool) (q : B → Bool) (d : A) (e : B) (low high : ℕ) (xs : List A) (ys : List B) : Type 0 where
  pub below : (k : ℕ) → k < length xs → k < low → p (get_or xs k d) ≡ false
  pub above : (k : ℕ) → k < length xs → high ≤ k → p (get_or xs k d) ≡ false
  pub inside : (k : ℕ) → k < length xs → low ≤ k → k < high → p (get_or xs k d) ≡ q (get_or ys k e)

drop-nil : {A : Type 0} (n : ℕ) → drop {A = A} n [] ≡ []
drop-nil zero = refl
drop-nil (suc n) = refl

take-nil : {A : Type 0} (n : ℕ) → take {A = A} n [] ≡ []
take-nil zero = refl
take-nil (suc n) = refl

between-nil : {A : Type 0} (low high : ℕ) → between {A = A} low high [] ≡ []
between-nil {A} low high = ap (drop {A = A} low) (take-nil high) ∙ drop-nil low

-- the next item of a range
pub between-more :
    {A : Type 0} (xs : List A) (low high : ℕ) (d : A) →
    low < high → high ≤ length xs →
    between low high xs ≡ get_or xs low d ∷ between (low + 1) high xs
between-more {A} [] low high d less most = absurd (omega arith)
between-more {A} (x ∷ xs) low zero d less most = absurd (omega arith)
between-more {A} (x ∷ xs) zero (suc high) d less most = refl
between-more {A} (x ∷ xs) (suc low) (suc high) d less most =
    let next : suc low + 1 ≡ suc (low + 1) = omega arith in
    between-more xs low high d (omega arith) (omega arith)
    ∙ ap (λ n. get_or xs low d ∷ drop n (x ∷ take high xs)) (sym next)

-- nothing is between an index and itself
pub between-none : {A : Type 0} (xs : List A) (low high : ℕ) → high ≤ low → between low high xs ≡ []
between-none [] low high empty = between-nil low high
between-none (x ∷ xs) low zero empty = drop-nil low
between-none (x ∷ xs) zero (suc high) empty = absurd (omega arith)
between-none (x ∷ xs) (suc low) (suc high) empty = between-none xs low high (omega arith)

-- a first part of a range is a range
pub take-between :
    {A : Type 0} (xs : List A) (low high n : ℕ) →
    low + n ≤ high → take n (between low high xs) ≡ between low (low + n) xs
take-between xs low high n fits =
    sym (drop-take low n (take high xs)) ∙ ap (drop low) (take-take (low + n) high xs fits)

-- how a slice's range is read
pub between-range :
    {A : Type 0} (xs : List A) (low high : ℕ) →
    low ≤ high → take (high - low) (drop low xs) ≡ between low high xs
between-range xs low high ordered =
    let whole : low + (high - low) ≡ high = omega arith in
    sym (drop-take low (high - low) xs) ∙ ap (λ n. drop low (take n xs)) whole

-- what is after the first item
module _ {A B : Type 0} (p : A → Bool) (q : B → Bool) (d : A) (e : B) (x : A) (xs : List A) (y : B) (ys : List B) where
  AgreeBetween-rest :
      (low high below above : ℕ) →
      AgreeBetween p q d e low high (x ∷ xs) (y ∷ ys) →
      below ≤ low → low ≤ below + 1 → above ≤ high → high ≤ above + 1 →
      (low ≡ 0 → below ≡ 0) → (high ≡ 0 → above ≡ 0) →
      (0 < low → below + 1 ≡ low) → (0 < high → above + 1 ≡ high) →
      AgreeBetween p q d e below above xs ys
  AgreeBetween-rest low high below above agree a b c f g h i j = record {
    below = λ k within less. agree.below (suc k) (omega arith) (omega arith);
    above = λ k within more. agree.above (suc k) (omega arith) (omega arith);
    inside = λ k within less more. agree.inside (suc k) (omega arith) (omega arith) (omega arith);
  }

-- what passes the one test is what passes the other between the indexes
pub filter-between :
    {A : Type 0} (p q : A → Bool) (d : A) (xs : List A) (low high : ℕ) →
    AgreeBetween p q d d low high xs xs → filter p xs ≡ filter q (between low high xs)
filter-between p q d [] low high agree = ap (filter q) (sym (between-nil low high))
filter-between p q d (x ∷ xs) zero zero agree =
    let rest = AgreeBetween-rest p q d d x xs x xs 0 0 0 0 agree (omega arith) (omega arith) (omega arith) (omega arith) (λ r. refl) (λ r. refl) (λ r. omega arith) (λ r. omega arith) in
    ap (λ b. cond b (x ∷ filter p xs) (filter p xs)) (agree.above 0 (omega arith) (omega arith))
    ∙ filter-between p q d xs 0 0 rest
filter-between p q d (x ∷ xs) zero (suc high) agree =
    let rest = AgreeBetween-rest p q d d x xs x xs 0 (suc high) 0 high agree (omega arith) (omega arith) (omega arith) (omega arith) (λ r. refl) (λ r. omega arith) (λ r. omega arith) (λ r. omega arith) in
    ap (λ b. cond b (x ∷ filter p xs) (filter p xs)) (agree.inside 0 (omega arith) (omega arith) (omega arith))
    ∙ ap (λ zs. cond (q x) (x ∷ zs) zs) (filter-between p q d xs 0 high rest)
filter-between p q d (x ∷ xs) (suc low) zero agree =
    let rest = AgreeBetween-rest p q d d x xs x xs (suc low) 0 low 0 agree (omega arith) (omega arith) (omega arith) (omega arith) (λ r. omega arith) (λ r. refl) (λ r. omega arith) (λ r. omega arith) in
    ap (λ b. cond b (x ∷ filter p xs) (filter p xs)) (agree.above 0 (omega arith) (omega arith))
    ∙ filter-between p q d xs low 0 rest
    ∙ ap (filter q) (drop-nil low)
filter-between p q d (x ∷ xs) (suc low) (suc high) agree =
    let rest = AgreeBetween-rest p q d d x xs x xs (suc low) (suc high) low high agree (omega arith) (omega arith) (omega arith) (omega arith) (λ r. omega arith) (λ r. omega arith) (λ r. omega arith) (λ r. omega arith) in
    ap (λ b. cond b (x ∷ filter p xs) (filter p xs)) (agree.below 0 (omega arith) (omega arith))
    ∙ filter-between p q d xs low high rest

-- some item passes the one test if some item between the indexes passes the other
pub list_any-between :
    {A B : Type 0} (p : A → Bool) (q : B → Bool) (d : A) (e : B) (xs : List A) (ys : List B) (low high : ℕ) →
    AgreeBetween p q d e low high xs ys → length xs ≡ length ys →
    list_any p xs ≡ list_any q (between low high ys)
list_any-between p q d e [] [] low high agree sized = ap (list_any q) (sym (between-nil low high))
list_any-between p q d e [] (y ∷ ys) low high agree sized = absurd (omega arith)
list_any-between p q d e (x ∷ xs) [] low high agree sized = absurd (omega arith)
list_any-between p q d e (x ∷ xs) (y ∷ ys) zero zero agree sized =
    let rest = AgreeBetween-rest p q d e x xs y ys 0 0 0 0 agree (omega arith) (omega arith) (omega arith) (omega arith) (λ r. refl) (λ r. refl) (λ r. omega arith) (λ r. omega arith) in
    ap (λ b. b || list_any p xs) (agree.above 0 (omega arith) (omega arith))
    ∙ list_any-between p q d e xs ys 0 0 rest (omega arith)
list_any-between p q d e (x ∷ xs) (y ∷ ys) zero (suc high) agree sized =
    let rest = AgreeBetween-rest p q d e x xs y ys 0 (suc high) 0 high agree (omega arith) (omega arith) (omega arith) (omega arith) (λ r. refl) (λ r. omega arith) (λ r. omega arith) (λ r. omega arith) in
    ap (λ b. b || list_any p xs) (agree.inside 0 (omega arith) (omega arith) (omega arith))
    ∙ ap (λ b. q y || b) (list_any-between p q d e xs ys 0 high rest (omega arith))
list_any-between p q d e (x ∷ xs) (y ∷ ys) (suc low) zero agree sized =
    let rest = AgreeBetween-rest p q d e x xs y ys (suc low) 0 low 0 agree (omega arith) (omega arith) (omega arith) (omega arith) (λ r. omega arith) (λ r. refl) (λ r. omega arith) (λ r. omega arith) in
    ap (λ b. b || list_any p xs) (agree.above 0 (omega arith) (omega arith))
    ∙ list_any-between p q d e xs ys low 0 rest (omega arith)
    ∙ ap (list_any q) (drop-nil low)
list_any-between p q d e (x ∷ xs) (y ∷ ys) (suc low) (suc high) agree sized =
    let rest = AgreeBetween-rest p q d e x xs y ys (suc low) (suc high) low high agree (omega arith) (omega arith) (omega arith) (omega arith) (λ r. omega arith) (λ r. omega arith) (λ r. omega arith) (λ r. omega arith) in
    ap (λ b. b || list_any p xs) (agree.below 0 (omega arith) (omega arith))
    ∙ list_any-between p q d e xs ys low high rest (omega arith)
