-- Items of lists by their index: what holds of all of them, and the first one that passes a test.
use Rattle.std.proofs.Common.{◌≡◌, ℕ, zero, suc, ◌<◌, Bool, true, false, List, [], ◌∷◌, get_or, Option, None, Some, refl, sym, ap, ◌∙◌, arith}
use Rattle.std.specs.List.{AllByRecursion, find, list_all, position, position_or_len, slice_get}
use Rattle.std.specs.Option.{option_map_or}
use Rattle.std.proofs.lemmas.Bool.{and_parts, cond_both, false≢true}
use Rattle.std.proofs.lemmas.List.Folds.{find_at}
use Rattle.std.proofs.lemmas.List.Quantifiers.{position-Some}
use Rattle.std.proofs.lemmas.Option.{slice_get-get_or}
use Rattle.values.specs.Ordered.{ascend}

-- an item that is there and passes a test
pub record Passes {A : Type 0} (test : A → Bool) (there : Option A) : Type 0 where
  pub item : A
  pub is : there ≡ Some item
  pub passed : test item ≡ true

pub Passes-option_map_or :
    {A : Type 0} (test : A → Bool) (there : Option A) →
    option_map_or test there false ≡ true → Passes test there
Passes-option_map_or test None passed = absurd (false≢true passed)
Passes-option_map_or test (Some item) passed = record { item = item; is = refl; passed = passed }

-- what all items pass, the one at an index does
pub list_all-slice_get :
    {A : Type 0} (test : A → Bool) (items : List A) (index : ℕ) (item : A) →
    list_all test items ≡ true → slice_get items index ≡ Some item → test item ≡ true
list_all-slice_get test [] index item all there = cc
list_all-slice_get test (first ∷ items) zero item all there =
    let same : first ≡ item = cc in
    sym (ap test same) ∙ (and_parts (test first) (list_all test items) all).0
list_all-slice_get test (first ∷ items) (suc index) item all there =
    list_all-slice_get test items index item (and_parts (test first) (list_all test items) all).1 there

-- what holds of all items, holds of the one at an index
pub AllByRecursion-slice_get :
    {A : Type 0} (P : A → Type 0) (items : List A) (index : ℕ) (item : A) →
    AllByRecursion P items → slice_get items index ≡ Some item → P item
AllByRecursion-slice_get P [] index item all there = cc
AllByRecursion-slice_get P (first ∷ items) zero item all there =
    let same : first ≡ item = cc in
    rw (← same) all.0
AllByRecursion-slice_get P (first ∷ items) (suc index) item all there =
    AllByRecursion-slice_get P items index item all.1 there

-- of two items of an ascending list the first is before the other
pub ascend-slice_get :
    {A : Type 0} (before : A → A → Bool) (items : List A) (low high : ℕ) (first second : A) →
    ascend before items ≡ true → low < high →
    slice_get items low ≡ Some first → slice_get items high ≡ Some second → before first second ≡ true
ascend-slice_get before [] low high first second ascends less at_low at_high = cc
ascend-slice_get before (item ∷ items) low zero first second ascends less at_low at_high = absurd (omega arith)
ascend-slice_get before (item ∷ items) zero (suc high) first second ascends less at_low at_high =
    let same : item ≡ first = cc in
    let after = (and_parts (list_all (before item) items) (ascend before items) ascends).0 in
    sym (ap (λ x. before x second) same) ∙ list_all-slice_get (before item) items high second after at_high
ascend-slice_get before (item ∷ items) (suc low) (suc high) first second ascends less at_low at_high =
    let rest = (and_parts (list_all (before item) items) (ascend before items) ascends).1 in
    ascend-slice_get before items low high first second rest (omega arith) at_low at_high

-- the first item that passes is at its place, and passes
pub find-position :
    {A : Type 0} (test : A → Bool) (items : List A) (item : A) →
    find test items ≡ Some item → slice_get items (position_or_len test items) ≡ Some item
find-position test items item found = sym (find_at test items) ∙ found

pub find-passes : {A : Type 0} (test : A → Bool) (items : List A) (item : A) → find test items ≡ Some item → test item ≡ true
find-passes test [] item found = cc
find-passes {A} test (first ∷ items) item found =
    let rest = find-passes test items item in
    cond_both (test first) (Some first) (find test items) (λ (o : Option A). o ≡ Some item → test item ≡ true)
    (λ passed is.
    let same : first ≡ item = cc in
    sym (ap test same) ∙ passed)
    (λ failed is. rest is) found

pub position-Passes :
    {A : Type 0} (test : A → Bool) (items : List A) (index : ℕ) →
    position test items ≡ Some index → Passes test (slice_get items index)
position-Passes test [] index found = cc
position-Passes test (first ∷ items) index found =
    let at = position-Some test (first ∷ items) index first found in
    record {
      item = get_or (first ∷ items) index first;
      is = slice_get-get_or (first ∷ items) index first at.0;
      passed = at.1;
    }
