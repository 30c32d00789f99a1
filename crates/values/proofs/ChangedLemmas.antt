-- Tests, counts and lengths of a list of which the first item that passes was changed.
use Rattle.std.proofs.Common.{◌≡◌, ◌+◌, ◌||◌, Bool, true, false, cond, List, [], ◌∷◌, length, map, Some, find, count_by, suc, ◌++◌, refl, ap, sym, ◌∙◌, arith}
use Rattle.std.specs.List.{AllByRecursion, list_all, list_any}
use Rattle.std.proofs.lemmas.Bool.{and_from, and_parts}
use Rattle.std.proofs.lemmas.List.Sums.{sum_by-append}
use Rattle.values.specs.Lists.{change}
use Rattle.values.specs.Ordered.{ascend}

-- one more is counted where the first item passes
pub count_by-cons :
    {A : Type 0} (q : A → Bool) (x : A) (xs : List A) →
    count_by q (x ∷ xs) ≡ cond (q x) 1 0 + count_by q xs
count_by-cons q x xs = let joined = sum_by-append (λ y. cond (q y) 1 0) (x ∷ []) xs in omega arith

-- all pass a test that gives the same
list_all-same :
    {A : Type 0} (p q : A → Bool) → ((x : A) → q x ≡ p x) → (xs : List A) → list_all p xs ≡ true →
    list_all q xs ≡ true
list_all-same p q same [] all = refl
list_all-same p q same (x ∷ xs) all =
    let parts = and_parts (p x) (list_all p xs) all in
    and_from (q x) (list_all q xs) (same x ∙ parts.0) (list_all-same p q same xs parts.1)

module _ {A : Type 0} (p : A → Bool) (f : A → A) where
  pub length-change : (xs : List A) → length (change p f xs) ≡ length xs
  length-change [] = refl
  length-change (x ∷ xs) = cases (p x) (length-change xs)
    where
      cases :
          (b : Bool) →
          length (change p f xs) ≡ length xs →
          length (cond b (f x ∷ xs) (x ∷ change p f xs)) ≡ length (x ∷ xs)
      cases true others = refl
      cases false others = ap suc others

  -- a test that the change leaves as it is counts as many
  pub count_by-change :
      (q : A → Bool) →
      ((x : A) → q (f x) ≡ q x) →
      (xs : List A) →
      count_by q (change p f xs) ≡ count_by q xs
  count_by-change q same [] = refl
  count_by-change q same (x ∷ xs) = cases (p x) (count_by-change q same xs)
    where
      cases :
          (b : Bool) →
          count_by q (change p f xs) ≡ count_by q xs →
          count_by q (cond b (f x ∷ xs) (x ∷ change p f xs)) ≡ count_by q (x ∷ xs)
      cases true others =
          count_by-cons q (f x) xs ∙ ap (λ b. cond b 1 0 + count_by q xs) (same x) ∙ sym (count_by-cons q x xs)
      cases false others =
          count_by-cons q x (change p f xs) ∙ ap (λ n. cond (q x) 1 0 + n) others ∙ sym (count_by-cons q x xs)

  -- and some item passes it where one did
  pub list_any-change :
      (q : A → Bool) →
      ((x : A) → q (f x) ≡ q x) →
      (xs : List A) →
      list_any q (change p f xs) ≡ list_any q xs
  list_any-change q same [] = refl
  list_any-change q same (x ∷ xs) = cases (p x) (list_any-change q same xs)
    where
      cases :
          (b : Bool) →
          list_any q (change p f xs) ≡ list_any q xs →
          list_any q (cond b (f x ∷ xs) (x ∷ change p f xs)) ≡ (q x || list_any q xs)
      cases true others = ap (λ b. b || list_any q xs) (same x)
      cases false others = ap (λ b. q x || b) others

  -- all pass a test that the change keeps
  pub list_all-change :
      (q : A → Bool) →
      ((x : A) → q x ≡ true → q (f x) ≡ true) →
      (xs : List A) →
      list_all q xs ≡ true →
      list_all q (change p f xs) ≡ true
  list_all-change q keeps [] all = refl
  list_all-change q keeps (x ∷ xs) all =
      let parts = and_parts (q x) (list_all q xs) all in
      cases (p x) parts.0 parts.1 (list_all-change q keeps xs parts.1)
    where
      cases :
          (b : Bool) →
          q x ≡ true →
          list_all q xs ≡ true →
          list_all q (change p f xs) ≡ true →
          list_all q (cond b (f x ∷ xs) (x ∷ change p f xs)) ≡ true
      cases true here others changed = and_from (q (f x)) (list_all q xs) (keeps x here) others
      cases false here others changed = and_from (q x) (list_all q (change p f xs)) here changed

  -- a fact of each item holds after the change where it holds of the found item as changed
  pub AllByRecursion-change :
      (P : A → Type 0) (xs : List A) (x : A) →
      find p xs ≡ Some x →
      AllByRecursion P xs →
      (P x → P (f x)) →
      AllByRecursion P (change p f xs)
  AllByRecursion-change P [] x found all keeps = tt
  AllByRecursion-change P (y ∷ ys) x found all keeps =
      cases (p y) found (λ later. AllByRecursion-change P ys x later all.1 keeps)
    where
      cases :
          (b : Bool) →
          cond b (Some y) (find p ys) ≡ Some x →
          (find p ys ≡ Some x → AllByRecursion P (change p f ys)) →
          AllByRecursion P (cond b (f y ∷ ys) (y ∷ change p f ys))
      cases true first others =
          let same : x ≡ y = cc in
          let kept = rw same at keeps in
          (kept all.0, all.1)
      cases false later others = (all.0, others later)

  -- what each item gives stays, if the change leaves what an item gives
  pub map-change :
      {B : Type 0} (g : A → B) →
      ((x : A) → g (f x) ≡ g x) →
      (xs : List A) →
      map g (change p f xs) ≡ map g xs
  map-change g same [] = refl
  map-change {B} g same (x ∷ xs) = cases (p x) (map-change g same xs)
    where
      cases :
          (b : Bool) → map g (change p f xs) ≡ map g xs →
          map g (cond b (f x ∷ xs) (x ∷ change p f xs)) ≡ g x ∷ map g xs
      cases true others = ap (λ (y : B). y ∷ map g xs) (same x)
      cases false others = ap (λ ys. g x ∷ ys) others

  -- ascending items still ascend, if the change leaves how an item compares
  pub ascend-change :
      (before : A → A → Bool) → ((x y : A) → before (f x) y ≡ before x y) →
      ((x y : A) → before x (f y) ≡ before x y) → (xs : List A) → ascend before xs ≡ true →
      ascend before (change p f xs) ≡ true
  ascend-change before left right [] ascending = refl
  ascend-change before left right (x ∷ xs) ascending =
      let parts = and_parts (list_all (before x) xs) (ascend before xs) ascending in
      cases (p x) parts.0 parts.1 (ascend-change before left right xs parts.1)
    where
      cases :
          (b : Bool) → list_all (before x) xs ≡ true → ascend before xs ≡ true →
          ascend before (change p f xs) ≡ true →
          ascend before (cond b (f x ∷ xs) (x ∷ change p f xs)) ≡ true
      cases true after rest changed = and_from _ _ (list_all-same (before x) (before (f x)) (λ y. left x y) xs after) rest
      cases false after rest changed =
          and_from _ _ (list_all-change (before x) (λ y here. right x y ∙ here) xs after) changed

pub AllByRecursion-push :
    {A : Type 0} (P : A → Type 0) (xs : List A) (x : A) →
    AllByRecursion P xs →
    P x →
    AllByRecursion P (xs ++ x ∷ [])
AllByRecursion-push P [] x all here = (here, tt)
AllByRecursion-push P (y ∷ ys) x all here = (all.0, AllByRecursion-push P ys x all.1 here)
