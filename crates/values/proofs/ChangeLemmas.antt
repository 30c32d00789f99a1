-- The first item of a list that passes, changed in place: by the index that `position` gives.
use Rattle.std.proofs.Common.{◌≡◌, ℕ, zero, suc, ◌<◌, ◌≤◌, Bool, true, false, cond, ltb, List, [], ◌∷◌, length, get_or, set, Some, None, refl, ap, sym, ◌∙◌, arith}
use Rattle.std.specs.List.{position, position_or_len}
use Rattle.std.proofs.lemmas.Bool.{ltb-false}
use Rattle.std.proofs.lemmas.List.Quantifiers.{position-Some}
use Rattle.std.proofs.lemmas.List.Sums.{fails_before_first, prefix_len-le-length}
use Rattle.values.specs.Lists.{change}

-- the place of a found item is its index
pub position_or_len-Some :
    {A : Type 0} (p : A → Bool) (xs : List A) (i : ℕ) →
    position p xs ≡ Some i →
    i ≡ position_or_len p xs
position_or_len-Some p xs i found = cases (ltb (position_or_len p xs) (length xs)) found
  where
    cases : (b : Bool) → cond b (Some (position_or_len p xs)) None ≡ Some i → i ≡ position_or_len p xs
    cases true is = cc
    cases false is = cc

-- if none is found, the place is the end
pub position_or_len-None :
    {A : Type 0} (p : A → Bool) (xs : List A) →
    position p xs ≡ None →
    position_or_len p xs ≡ length xs
position_or_len-None p xs none = cases (ltb (position_or_len p xs) (length xs)) refl none
  where
    cases :
        (b : Bool) →
        b ≡ ltb (position_or_len p xs) (length xs) →
        cond b (Some (position_or_len p xs)) None ≡ None →
        position_or_len p xs ≡ length xs
    cases true is h = cc
    cases false is h =
        let within : position_or_len p xs ≤ length xs = prefix_len-le-length _ xs in
        let past : length xs ≤ position_or_len p xs = ltb-false _ _ (sym is) in
        omega arith

-- the first item that passes is changed, the others stay
pub change-at :
    {A : Type 0} (p : A → Bool) (f : A → A) (xs : List A) (i : ℕ) (d : A) →
    i < length xs →
    p (get_or xs i d) ≡ true →
    ((k : ℕ) → k < i → p (get_or xs k d) ≡ false) →
    change p f xs ≡ set xs i (f (get_or xs i d))
change-at p f [] i d within passes fails = absurd (omega arith)
change-at p f (x ∷ xs) zero d within passes fails = ap (λ b. cond b (f x ∷ xs) (x ∷ change p f xs)) passes
change-at p f (x ∷ xs) (suc i) d within passes fails =
    ap (λ b. cond b (f x ∷ xs) (x ∷ change p f xs)) (fails 0 (omega arith))
    ∙ ap (λ ys. x ∷ ys) (change-at p f xs i d (omega arith) passes (λ k below. fails (suc k) (omega arith)))

-- where no item passes, all stay
pub change-nowhere :
    {A : Type 0} (p : A → Bool) (f : A → A) (xs : List A) →
    ((k : ℕ) (d : A) → k < length xs → p (get_or xs k d) ≡ false) →
    change p f xs ≡ xs
change-nowhere p f [] fails = refl
change-nowhere p f (x ∷ xs) fails =
    ap (λ b. cond b (f x ∷ xs) (x ∷ change p f xs)) (fails 0 x (omega arith))
    ∙ ap (λ ys. x ∷ ys) (change-nowhere p f xs (λ k d below. fails (suc k) d (omega arith)))

pub change-Some :
    {A : Type 0} (p : A → Bool) (f : A → A) (xs : List A) (i : ℕ) (x y : A) →
    position p xs ≡ Some i →
    x ≡ get_or xs i x →
    y ≡ f x →
    set xs i y ≡ change p f xs
change-Some p f xs i x y found item changed =
    let at = position-Some p xs i x found in
    ap (λ z. set xs i z) (changed ∙ ap f item) ∙ sym (change-at p f xs i x at.0 at.1 at.2)

pub change-None : {A : Type 0} (p : A → Bool) (f : A → A) (xs : List A) → position p xs ≡ None → xs ≡ change p f xs
change-None p f xs none =
    let all = position_or_len-None p xs none in
    sym (change-nowhere p f xs (λ k d below. fails_before_first p xs k d (omega arith)))
