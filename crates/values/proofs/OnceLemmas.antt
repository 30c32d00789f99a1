-- Where one item of a list passes at most, each item that passes is the first one.
use Rattle.std.proofs.Common.{◌≡◌, ℕ, zero, suc, ◌<◌, ◌≤◌, Bool, true, false, cond, ltb, List, [], ◌∷◌, length, get_or, count_by, Option, Some, None, refl, ap, sym, ◌∙◌, arith}
use Rattle.std.specs.List.{position, position_or_len}
use Rattle.std.proofs.lemmas.Bool.{false≢true, ltb-false}
use Rattle.std.proofs.lemmas.List.Quantifiers.{position-Some}
use Rattle.std.proofs.lemmas.List.Sums.{position_or_len_is}
use Rattle.values.proofs.ChangedLemmas.{count_by-cons}

-- an item that passes is counted
one-le-count_by :
    {A : Type 0} (p : A → Bool) (xs : List A) (i : ℕ) (d : A) →
    i < length xs →
    p (get_or xs i d) ≡ true →
    1 ≤ count_by p xs
one-le-count_by p [] i d within passes = absurd (omega arith)
one-le-count_by p (x ∷ xs) zero d within passes =
    let counted = count_by-cons p x xs in
    let one = ap (λ (t : Bool). cond {A = ℕ} t 1 0) passes in
    omega arith
one-le-count_by p (x ∷ xs) (suc i) d within passes =
    let counted = count_by-cons p x xs in
    let later = one-le-count_by p xs i d (omega arith) passes in
    omega arith

-- so none before it passes
none_before :
    {A : Type 0} (p : A → Bool) (xs : List A) (i k : ℕ) (d : A) →
    count_by p xs ≤ 1 →
    i < length xs →
    p (get_or xs i d) ≡ true →
    k < i →
    p (get_or xs k d) ≡ false
none_before p [] i k d once within passes before = absurd (omega arith)
none_before p (x ∷ xs) zero k d once within passes before = absurd (omega arith)
none_before p (x ∷ xs) (suc i) zero d once within passes before = cases (p x) refl
  where
    cases : (b : Bool) → p x ≡ b → b ≡ false
    cases false fails = refl
    cases true here =
        let counted = count_by-cons p x xs in
        let one = ap (λ (t : Bool). cond {A = ℕ} t 1 0) here in
        let later = one-le-count_by p xs i d (omega arith) passes in
        absurd (omega arith)
none_before p (x ∷ xs) (suc i) (suc k) d once within passes before =
    let counted = count_by-cons p x xs in
    none_before p xs i k d (omega arith) (omega arith) passes (omega arith)

-- and its index is the first one's
position_or_len-once :
    {A : Type 0} (p : A → Bool) (xs : List A) (i : ℕ) (d : A) →
    count_by p xs ≤ 1 →
    i < length xs →
    p (get_or xs i d) ≡ true →
    position_or_len p xs ≡ i
position_or_len-once p xs i d once within passes =
    position_or_len_is p xs i d (omega arith) (λ k before. none_before p xs i k d once within passes before) (λ inside. passes)

-- an index in the list is found where it is the place of the first
position-from_place :
    {A : Type 0} (p : A → Bool) (xs : List A) (i : ℕ) →
    i < length xs →
    position_or_len p xs ≡ i →
    position p xs ≡ Some i
position-from_place p xs i within first = cases (ltb i (length xs)) refl
  where
    at_first : position p xs ≡ cond (ltb i (length xs)) (Some i) None
    at_first = ap (λ (k : ℕ). cond (ltb k (length xs)) (Some k) None) first

    cases : (b : Bool) → ltb i (length xs) ≡ b → position p xs ≡ Some i
    cases true is = at_first ∙ ap (λ (b : Bool). cond b (Some i) None) is
    cases false is =
        let past : length xs ≤ i = ltb-false i (length xs) is in
        absurd (omega arith)

pub position-once :
    {A : Type 0} (p : A → Bool) (xs : List A) (i : ℕ) →
    count_by p xs ≤ 1 →
    i < length xs →
    ((d : A) → p (get_or xs i d) ≡ true) →
    position p xs ≡ Some i
position-once p [] i once within passes = absurd (omega arith)
position-once p (x ∷ xs) i once within passes =
    position-from_place p (x ∷ xs) i within (position_or_len-once p (x ∷ xs) i x once within (passes x))

-- where no item passes, there is no first one
pub position-nowhere :
    {A : Type 0} (p : A → Bool) (xs : List A) →
    ((k : ℕ) (d : A) → k < length xs → p (get_or xs k d) ≡ false) →
    position p xs ≡ None
position-nowhere p [] fails = refl
position-nowhere p (x ∷ xs) fails = cases (position p (x ∷ xs)) refl
  where
    cases : (o : Option ℕ) → position p (x ∷ xs) ≡ o → o ≡ None
    cases None none = refl
    cases (Some i) found =
        let at = position-Some p (x ∷ xs) i x found in
        absurd (false≢true (sym (fails i x at.0) ∙ at.1))
