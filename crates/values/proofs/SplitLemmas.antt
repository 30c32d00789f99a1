-- What holds of an item of a list and of those before it, the list being cut at the item.
use Rattle.std.proofs.Common.{◌≡◌, ℕ, ◌<◌, ◌≤◌, ◌&&◌, ◌||◌, Bool, true, false, cond, List, [], ◌∷◌, ◌++◌, length, Some, None, find, count_by, refl, ap, sym, ◌∙◌, arith, length-append, append_assoc}
use Rattle.std.specs.List.{AllByRecursion, list_all, list_any}
use Rattle.std.specs.Map.{lookup}
use Rattle.std.proofs.lemmas.Bool.{and_parts, or_parts, or_right}
use Rattle.std.proofs.lemmas.List.Folds.{list_all-append}
use Rattle.std.proofs.lemmas.List.Sums.{sum_by-append}
use Rattle.values.proofs.ChangedLemmas.{count_by-cons}
use Rattle.values.specs.Lists.{change}
use Rattle.values.specs.Ordered.{ascend}
use Rattle.values.specs.Lists.{IsOnce}

-- if nothing is counted, nothing passes
list_any-not_counted : {A : Type 0} (p : A → Bool) (xs : List A) → count_by p xs ≡ 0 → list_any p xs ≡ false
list_any-not_counted p [] none = refl
list_any-not_counted p (x ∷ xs) none = cases (p x) refl (list_any-not_counted p xs)
  where
    cases : (b : Bool) → p x ≡ b → (count_by p xs ≡ 0 → list_any p xs ≡ false) → (b || list_any p xs) ≡ false
    cases true here others =
        let counted = count_by-cons p x xs in
        let one = ap (λ (t : Bool). cond {A = ℕ} t 1 0) here in
        absurd (omega arith)
    cases false here others =
        let counted = count_by-cons p x xs in
        let nothing = ap (λ (t : Bool). cond {A = ℕ} t 1 0) here in
        others (omega arith)

-- where each key is there once, none before an item has the item's key
pub list_any-before :
    {K A : Type 0} (has : K → A → Bool) (front : List A) (x : A) (back : List A) →
    IsOnce has (front ++ x ∷ back) →
    (key : K) →
    has key x ≡ true →
    list_any (has key) front ≡ false
list_any-before has front x back once key here =
    let joined = sum_by-append (λ y. cond {A = ℕ} (has key y) 1 0) front (x ∷ back) in
    let counted = count_by-cons (has key) x back in
    let one = ap (λ (t : Bool). cond {A = ℕ} t 1 0) here in
    let most = once key in
    list_any-not_counted (has key) front (omega arith)

pub list_all-at :
    {A : Type 0} (p : A → Bool) (front : List A) (x : A) (back : List A) →
    list_all p (front ++ x ∷ back) ≡ true →
    p x ≡ true
list_all-at p front x back all =
    let apart = and_parts (list_all p front) (p x && list_all p back) (sym (list_all-append p front (x ∷ back)) ∙ all) in
    (and_parts (p x) (list_all p back) apart.1).0

pub AllByRecursion-at :
    {A : Type 0} (P : A → Type 0) (front : List A) (x : A) (back : List A) →
    AllByRecursion P (front ++ x ∷ back) →
    P x
AllByRecursion-at P [] x back all = all.0
AllByRecursion-at P (y ∷ front) x back all = AllByRecursion-at P front x back all.1

-- all before an item of an ascending list come before it
pub ascend-before :
    {A : Type 0} (before : A → A → Bool) (front : List A) (x : A) (back : List A) →
    ascend before (front ++ x ∷ back) ≡ true →
    list_all (λ y. before y x) front ≡ true
ascend-before before [] x back ascending = refl
ascend-before before (y ∷ front) x back ascending =
    let parts = and_parts (list_all (before y) (front ++ x ∷ back)) (ascend before (front ++ x ∷ back)) ascending in
    let here = list_all-at (before y) front x back parts.0 in
    let others = ascend-before before front x back parts.1 in
    ap (λ b. b && list_all (λ z. before z x) front) here ∙ others

-- there is room for an item after those before it
pub length-before :
    {A : Type 0} (front : List A) (x : A) (back : List A) (most : ℕ) →
    length (front ++ x ∷ back) ≤ most →
    length front < most
length-before front x back most few = let joined = length-append front (x ∷ back) in omega arith

-- the item is found and changed if none before it passes
pub find-at :
    {A : Type 0} (p : A → Bool) (front : List A) (x : A) (back : List A) →
    list_any p front ≡ false →
    p x ≡ true →
    find p (front ++ x ∷ back) ≡ Some x
find-at p [] x back none here = ap (λ b. cond b (Some x) (find p back)) here
find-at p (y ∷ front) x back none here =
    let parts = or_parts (p y) (list_any p front) none in
    ap (λ b. cond b (Some y) (find p (front ++ x ∷ back))) parts.0 ∙ find-at p front x back parts.1 here

pub change-at_item :
    {A : Type 0} (p : A → Bool) (f : A → A) (front : List A) (x : A) (back : List A) →
    list_any p front ≡ false →
    p x ≡ true →
    change p f (front ++ x ∷ back) ≡ front ++ f x ∷ back
change-at_item p f [] x back none here = ap (λ b. cond b (f x ∷ back) (x ∷ change p f back)) here
change-at_item p f (y ∷ front) x back none here =
    let parts = or_parts (p y) (list_any p front) none in
    ap (λ b. cond b (f y ∷ front ++ x ∷ back) (y ∷ change p f (front ++ x ∷ back))) parts.0
    ∙ ap (λ ys. y ∷ ys) (change-at_item p f front x back parts.1 here)

-- some item passes if it does
pub list_any-at :
    {A : Type 0} (p : A → Bool) (front : List A) (x : A) (back : List A) →
    p x ≡ true →
    list_any p (front ++ x ∷ back) ≡ true
list_any-at p [] x back here = ap (λ b. b || list_any p back) here
list_any-at p (y ∷ front) x back here = or_right (p y) (list_any p (front ++ x ∷ back)) (list_any-at p front x back here)

-- nothing is found if nothing passes
pub find-nowhere : {A : Type 0} (p : A → Bool) (xs : List A) → list_any p xs ≡ false → find p xs ≡ None
find-nowhere p [] none = refl
find-nowhere p (x ∷ xs) none =
    let parts = or_parts (p x) (list_any p xs) none in
    ap (λ b. cond b (Some x) (find p xs)) parts.0 ∙ find-nowhere p xs parts.1

pub lookup-nowhere :
    {K X : Type 0} (test : K → Bool) (entries : List (K × X)) →
    list_any (λ (e : K × X). test e.0) entries ≡ false →
    lookup test entries ≡ None
lookup-nowhere test [] none = refl
lookup-nowhere {K} {X} test (e ∷ es) none =
    let parts = or_parts (test e.0) (list_any (λ (d : K × X). test d.0) es) none in
    ap (λ b. cond b (Some e.1) (lookup test es)) parts.0 ∙ lookup-nowhere test es parts.1

-- an item that is put after the front is the next
pub split_next : {A : Type 0} (front : List A) (x : A) (back : List A) → front ++ x ∷ back ≡ (front ++ x ∷ []) ++ back
split_next front x back = sym (append_assoc front (x ∷ []) back)
