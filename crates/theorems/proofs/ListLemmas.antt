-- Lists with one item changed, and lists that go together.
use Rattle.std.proofs.Common.{◌≡◌, ℕ, zero, suc, ◌+◌, ◌≤◌, Bool, true, false, List, [], ◌∷◌, ◌++◌, length, Option, None, Some, refl, ap, ◌∙◌, subst, arith}
use Rattle.std.specs.List.{AllByRecursion, AllZip, slice_get, sum_by, zip}
use Rattle.std.specs.Option.{is_none, option_map_or}
use Rattle.std.proofs.lemmas.List.Sums.{sum_by-cons}
use Rattle.theorems.specs.Services.{changed_at}

pub all-weaker :
    {A : Type 0} (P Q : A → Type 0) (items : List A) →
    ((item : A) → P item → Q item) → AllByRecursion P items → AllByRecursion Q items
all-weaker P Q [] weaker all = tt
all-weaker P Q (item ∷ items) weaker all = (weaker item all.0, all-weaker P Q items weaker all.1)

pub all-append :
    {A : Type 0} (P : A → Type 0) (first second : List A) →
    AllByRecursion P first → AllByRecursion P second → AllByRecursion P (first ++ second)
all-append P [] second all others = others
all-append P (item ∷ first) second all others = (all.0, all-append P first second all.1 others)

pub all-parts :
    {A : Type 0} (P : A → Type 0) (first second : List A) →
    AllByRecursion P (first ++ second) → AllByRecursion P first × AllByRecursion P second
all-parts P [] second all = (tt, all)
all-parts P (item ∷ first) second all =
    let (own, others) = all-parts P first second all.1 in
    ((all.0, own), others)

-- what holds of each item holds of each one after one is changed
pub all-changed :
    {A : Type 0} (P : A → Type 0) (change : A → A) (index : ℕ) (items : List A) →
    ((item : A) → slice_get items index ≡ Some item → P item → P (change item)) →
    AllByRecursion P items → AllByRecursion P (changed_at index change items)
all-changed P change index [] keeps all = tt
all-changed P change zero (item ∷ items) keeps all = (keeps item refl all.0, all.1)
all-changed P change (suc index) (item ∷ items) keeps all = (all.0, all-changed P change index items keeps all.1)

pub zip-itself : {A : Type 0} (R : A → A → Type 0) (items : List A) → ((item : A) → R item item) → AllZip R items items
zip-itself R [] same = tt
zip-itself R (item ∷ items) same = (same item, zip-itself R items same)

pub all-at :
    {A : Type 0} (P : A → Type 0) (items : List A) (index : ℕ) (item : A) →
    slice_get items index ≡ Some item → AllByRecursion P items → P item
all-at P [] index item there all = cc
all-at P (first ∷ items) zero item there all =
    let same : first ≡ item = cc in
    subst P same all.0
all-at P (first ∷ items) (suc index) item there all = all-at P items index item there all.1

-- a relation that each item has to itself, and the changed one to what it becomes
pub zip-changed :
    {A : Type 0} (P : A → Type 0) (R : A → A → Type 0) (change : A → A) (index : ℕ) (items : List A) →
    ((item : A) → R item item) → ((item : A) → slice_get items index ≡ Some item → P item → R item (change item)) →
    AllByRecursion P items → AllZip R items (changed_at index change items)
zip-changed P R change index [] same moves all = tt
zip-changed P R change zero (item ∷ items) same moves all = (moves item refl all.0, zip-itself R items same)
zip-changed P R change (suc index) (item ∷ items) same moves all =
    (same item, zip-changed P R change index items same moves all.1)

pub zip-through :
    {A : Type 0} (R : A → A → Type 0) (xs ys zs : List A) →
    ((x y z : A) → R x y → R y z → R x z) → AllZip R xs ys → AllZip R ys zs → AllZip R xs zs
zip-through R [] [] [] through first second = tt
zip-through R [] [] (z ∷ zs) through first second = absurd second
zip-through R [] (y ∷ ys) zs through first second = absurd first
zip-through R (x ∷ xs) [] zs through first second = absurd first
zip-through R (x ∷ xs) (y ∷ ys) [] through first second = absurd second
zip-through R (x ∷ xs) (y ∷ ys) (z ∷ zs) through first second =
    (through x y z first.0 second.0, zip-through R xs ys zs through first.1 second.1)

-- the items at one index
pub zip-at :
    {A B : Type 0} (R : A → B → Type 0) (xs : List A) (ys : List B) (index : ℕ) (x : A) (y : B) →
    AllZip R xs ys → slice_get xs index ≡ Some x → slice_get ys index ≡ Some y → R x y
zip-at R [] ys index x y all at_x at_y = cc
zip-at R (first ∷ xs) [] index x y all at_x at_y = absurd all
zip-at R (first ∷ xs) (second ∷ ys) zero x y all at_x at_y =
    let left : first ≡ x = cc in
    let right : second ≡ y = cc in
    subst (R x) right (subst (λ a. R a second) left all.0)
zip-at R (first ∷ xs) (second ∷ ys) (suc index) x y all at_x at_y = zip-at R xs ys index x y all.1 at_x at_y

-- a number that is read of an item, or 0, is no larger in the other list
pub zip-reads :
    {A : Type 0} (R : A → A → Type 0) (read : A → ℕ) (xs ys : List A) (index : ℕ) →
    ((x y : A) → R x y → read x ≤ read y) → AllZip R xs ys →
    option_map_or read (slice_get xs index) 0 ≤ option_map_or read (slice_get ys index) 0
zip-reads R read [] ys index rises all = omega arith
zip-reads R read (x ∷ xs) [] index rises all = absurd all
zip-reads R read (x ∷ xs) (y ∷ ys) zero rises all = rises x y all.0
zip-reads R read (x ∷ xs) (y ∷ ys) (suc index) rises all = zip-reads R read xs ys index rises all.1

-- nor than a bound of all
pub all-reads :
    {A : Type 0} (P : A → Type 0) (read : A → ℕ) (bound : ℕ) (items : List A) (index : ℕ) →
    ((item : A) → P item → read item ≤ bound) → AllByRecursion P items →
    option_map_or read (slice_get items index) 0 ≤ bound
all-reads P read bound [] index low all = omega arith
all-reads P read bound (item ∷ items) zero low all = low item all.0
all-reads P read bound (item ∷ items) (suc index) low all = all-reads P read bound items index low all.1

-- a sum grows by what is added to the changed item; without one there is nothing to add
pub sum-changed :
    {A : Type 0} (part : A → ℕ) (change : A → A) (more index : ℕ) (items : List A) →
    ((item : A) → slice_get items index ≡ Some item → part (change item) ≡ part item + more) →
    (slice_get items index ≡ None → more ≡ 0) →
    sum_by part (changed_at index change items) ≡ sum_by part items + more
sum-changed part change more index [] grows none =
    let nothing = none refl in
    omega arith
sum-changed part change more zero (item ∷ items) grows none =
    let own = grows item refl in
    let new = sum_by-cons part (change item) items in
    let old = sum_by-cons part item items in
    omega arith
sum-changed part change more (suc index) (item ∷ items) grows none =
    let rest = sum-changed part change more index items grows none in
    let new = sum_by-cons part item (changed_at index change items) in
    let old = sum_by-cons part item items in
    omega arith

pub pairs-nil : {A B : Type 0} (xs : List A) → zip {K = A} {X = B} xs [] ≡ []
pairs-nil [] = refl
pairs-nil (x ∷ xs) = refl

-- one more pair of two lists, of which the first has the item
pub pairs-push :
    {A B : Type 0} (xs : List A) (ys : List B) (x : A) (y : B) →
    slice_get xs (length ys) ≡ Some x → zip xs (ys ++ y ∷ []) ≡ zip xs ys ++ (x, y) ∷ []
pairs-push [] ys x y there = cc
pairs-push {A} {B} (first ∷ xs) [] x y there =
    let same : first ≡ x = cc in
    ap (λ (rest : List (A × B)). (first, y) ∷ rest) (pairs-nil xs) ∙ ap (λ (a : A). (a, y) ∷ []) same
pairs-push {A} {B} (first ∷ xs) (second ∷ ys) x y there =
    ap (λ (rest : List (A × B)). (first, second) ∷ rest) (pairs-push xs ys x y there)

pub none-is : {A : Type 0} (o : Option A) → is_none o ≡ true → o ≡ None
none-is None is = refl
none-is (Some item) is = cc

-- an item that is there and passes a test
pub record Passes {A : Type 0} (test : A → Bool) (there : Option A) : Type 0 where
  pub item : A
  pub is : there ≡ Some item
  pub passed : test item ≡ true

pub Passes-option_map_or :
    {A : Type 0} (test : A → Bool) (there : Option A) → option_map_or test there false ≡ true → Passes test there
Passes-option_map_or test None passed = cc
Passes-option_map_or test (Some item) passed = record { item = item; is = refl; passed = passed }
