-- Tests, counts and lengths of a list that one item was put into.
use Rattle.std.proofs.Common.{◌≡◌, ℕ, ◌+◌, ◌≤◌, ◌&&◌, ◌||◌, Bool, true, false, cond, List, [], ◌∷◌, length, Some, None, find, count_by, refl, ap, sym, ◌∙◌, arith, length-append}
use Rattle.std.specs.List.{list_all, list_any}
use Rattle.std.specs.Map.{lookup}
use Rattle.std.proofs.lemmas.Bool.{and_from, and_parts, or_parts}
use Rattle.std.proofs.lemmas.List.Folds.{list_all-append, list_any-append}
use Rattle.std.proofs.lemmas.List.Sums.{sum_by-append}
use Rattle.values.proofs.ChangedLemmas.{count_by-cons}
use Rattle.values.proofs.InsertionLemmas.{Inserts}
use Rattle.values.specs.Lists.{IsOnce}

-- a test that is true counts one, and one that is false none
cond-true : (b : Bool) → b ≡ true → cond {A = ℕ} b 1 0 ≡ 1
cond-true b is = ap (λ (t : Bool). cond {A = ℕ} t 1 0) is

cond-false : (b : Bool) → b ≡ false → cond {A = ℕ} b 1 0 ≡ 0
cond-false b is = ap (λ (t : Bool). cond {A = ℕ} t 1 0) is

-- one more is counted where the item passes
pub count_by-Inserts :
    {A : Type 0} (p : A → Bool) (item : A) (old new : List A) →
    Inserts item old new →
    count_by p new ≡ cond (p item) 1 0 + count_by p old
count_by-Inserts p item old new h =
    let joined = sum_by-append (λ x. cond (p x) 1 0) h.front (item ∷ h.back) in
    let apart = sum_by-append (λ x. cond (p x) 1 0) h.front h.back in
    let first = count_by-cons p item h.back in
    let was = ap (count_by p) h.was in
    let is = ap (count_by p) h.is in
    omega arith

pub length-Inserts : {A : Type 0} (item : A) (old new : List A) → Inserts item old new → length new ≡ length old + 1
length-Inserts item old new h =
    let joined = length-append h.front (item ∷ h.back) in
    let apart = length-append h.front h.back in
    let was = ap length h.was in
    let is = ap length h.is in
    omega arith

-- all pass where the old ones and the item do
pub list_all-Inserts :
    {A : Type 0} (p : A → Bool) (item : A) (old new : List A) →
    Inserts item old new →
    list_all p old ≡ true →
    p item ≡ true →
    list_all p new ≡ true
list_all-Inserts p item old new h all passes =
    let parts = and_parts (list_all p h.front) (list_all p h.back) (sym (list_all-append p h.front h.back) ∙ ap (list_all p) (sym h.was) ∙ all) in
    ap (list_all p) h.is
    ∙ list_all-append p h.front (item ∷ h.back)
    ∙ and_from (list_all p h.front) (p item && list_all p h.back) parts.0 (and_from (p item) (list_all p h.back) passes parts.1)

-- of three facts the middle one may come last
or_swap : (a b c : Bool) → (a || (b || c)) ≡ ((a || c) || b)
or_swap true b c = refl
or_swap false true true = refl
or_swap false true false = refl
or_swap false false true = refl
or_swap false false false = refl

-- some item passes where one did before, or the one that is put in does
pub list_any-Inserts :
    {A : Type 0} (p : A → Bool) (item : A) (old new : List A) →
    Inserts item old new →
    list_any p new ≡ (list_any p old || p item)
list_any-Inserts p item old new h =
    ap (list_any p) h.is
    ∙ list_any-append p h.front (item ∷ h.back)
    ∙ or_swap (list_any p h.front) (p item) (list_any p h.back)
    ∙ ap (λ b. b || p item) (sym (ap (list_any p) h.was ∙ list_any-append p h.front h.back))

-- one passes where an old one did
pub list_any-kept :
    {A : Type 0} (p : A → Bool) (item : A) (old new : List A) →
    Inserts item old new →
    list_any p old ≡ true →
    list_any p new ≡ true
list_any-kept p item old new h any = list_any-Inserts p item old new h ∙ ap (λ b. b || p item) any

-- nothing is counted if nothing passes
pub count_by-none : {A : Type 0} (p : A → Bool) (xs : List A) → list_any p xs ≡ false → count_by p xs ≡ 0
count_by-none p [] none = refl
count_by-none p (x ∷ xs) none =
    let parts = or_parts (p x) (list_any p xs) none in
    let here = cond-false (p x) parts.0 in
    let counted = count_by-cons p x xs in
    let others = count_by-none p xs parts.1 in
    omega arith

pub list_any-find : {A : Type 0} (p : A → Bool) (xs : List A) → find p xs ≡ None → list_any p xs ≡ false
list_any-find p [] none = refl
list_any-find p (x ∷ xs) none = cases (p x) none (list_any-find p xs)
  where
    cases :
        (b : Bool) →
        cond b (Some x) (find p xs) ≡ None →
        (find p xs ≡ None → list_any p xs ≡ false) →
        (b || list_any p xs) ≡ false
    cases true found others = cc
    cases false absent others = others absent

pub list_any-lookup :
    {K X : Type 0} (test : K → Bool) (entries : List (K × X)) →
    lookup test entries ≡ None →
    list_any (λ (e : K × X). test e.0) entries ≡ false
list_any-lookup test [] none = refl
list_any-lookup {K} {X} test (e ∷ es) none = cases (test e.0) none (list_any-lookup test es)
  where
    cases :
        (b : Bool) →
        cond b (Some e.1) (lookup test es) ≡ None →
        (lookup test es ≡ None → list_any (λ (e : K × X). test e.0) es ≡ false) →
        (b || list_any (λ (e : K × X). test e.0) es) ≡ false
    cases true found others = cc
    cases false absent others = others absent

-- each key stays once where those of the item were not there
pub IsOnce-Inserts :
    {K A : Type 0} (has : K → A → Bool) (item : A) (old new : List A) →
    Inserts item old new →
    IsOnce has old →
    ((key : K) → has key item ≡ true → count_by (has key) old ≡ 0) →
    IsOnce has new
IsOnce-Inserts {K} {A} has item old new h once fresh key =
    cases (has key item) refl
  where
    counted : count_by (has key) new ≡ cond (has key item) 1 0 + count_by (has key) old
    counted = count_by-Inserts (has key) item old new h

    cases : (b : Bool) → has key item ≡ b → count_by (has key) new ≤ 1
    cases true here = let one = cond-true (has key item) here in let none = fresh key here in omega (arith, counted)
    cases false elsewhere = let none = cond-false (has key item) elsewhere in let was = once key in omega (arith, counted)

-- all pass a weaker test too
pub list_all-weaker :
    {A : Type 0} (p q : A → Bool) →
    ((x : A) → p x ≡ true → q x ≡ true) →
    (xs : List A) →
    list_all p xs ≡ true →
    list_all q xs ≡ true
list_all-weaker p q weaker [] all = refl
list_all-weaker p q weaker (x ∷ xs) all =
    let parts = and_parts (p x) (list_all p xs) all in
    and_from (q x) (list_all q xs) (weaker x parts.0) (list_all-weaker p q weaker xs parts.1)
