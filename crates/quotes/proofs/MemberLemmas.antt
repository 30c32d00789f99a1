-- What is in a list that was filtered, mapped or numbered.
use Rattle.std.proofs.Common.{◌≡◌, ℕ, zero, suc, ◌+◌, ◌<◌, ◌⊎◌, inl, inr, Bool, true, false, cond, List, [], ◌∷◌, length, get_or, map, Option, None, Some, refl, sym, ap, ◌∙◌, subst, arith}
use Rattle.std.specs.List.{Contains, enumerate_from, filter, find, slice_get}
use Rattle.std.specs.Option.{option_map_or}
use Rattle.std.proofs.lemmas.Bool.{false≢true}
use Rattle.std.proofs.lemmas.List.Elements.{All-contains, filter_passes}
use Rattle.std.proofs.lemmas.List.FromFn.{get_or-enumerate_from, length-enumerate_from}
use Rattle.std.proofs.lemmas.Option.{get_or_from_slice_get, slice_get-get_or, slice_get_within}

Contains-tail : {A : Type 0} (y : A) (xs : List A) (x : A) → Contains xs x → Contains (y ∷ xs) x
Contains-tail y xs x (k, within, is) = (suc k, omega arith, is)

Contains-cases : {A : Type 0} (y : A) (ys : List A) (x : A) → Contains (y ∷ ys) x → (y ≡ x) ⊎ Contains ys x
Contains-cases y ys x (zero, within, is) = inl is
Contains-cases y ys x (suc k, within, is) = inr ((k, omega arith, is))

not_in_nil : {A : Type 0} {P : Type 0} (x : A) → Contains [] x → P
not_in_nil x (k, within, is) = absurd (omega arith)

-- what passes a test is kept
pub Contains-filter :
    {A : Type 0} (p : A → Bool) (xs : List A) (x : A) → Contains xs x → p x ≡ true → Contains (filter p xs) x
Contains-filter p [] x inside passes = not_in_nil x inside
Contains-filter {A} p (y ∷ ys) x inside passes = elim (Contains-cases y ys x inside) [
  | inl same ↦
      subst (λ b. Contains (cond b (y ∷ filter p ys) (filter p ys)) x) (sym (ap p same ∙ passes)) (0, omega arith, same)
  | inr rest ↦ kept (p y) (Contains-filter p ys x rest passes)
]
  where
    kept : (b : Bool) → Contains (filter p ys) x → Contains (cond b (y ∷ filter p ys) (filter p ys)) x
    kept true rest = Contains-tail y (filter p ys) x rest
    kept false rest = rest

-- what is kept was there
pub Contains-filtered : {A : Type 0} (p : A → Bool) (xs : List A) (x : A) → Contains (filter p xs) x → Contains xs x
Contains-filtered p [] x inside = inside
Contains-filtered {A} p (y ∷ ys) x inside = there (p y) inside (λ rest. Contains-filtered p ys x rest)
  where
    there :
        (b : Bool) → Contains (cond b (y ∷ filter p ys) (filter p ys)) x →
        (Contains (filter p ys) x → Contains ys x) → Contains (y ∷ ys) x
    there true inside rest = elim (Contains-cases y (filter p ys) x inside) [
      | inl same ↦ (0, omega arith, same)
      | inr kept ↦ Contains-tail y ys x (rest kept)
    ]
    there false inside rest = Contains-tail y ys x (rest inside)

-- and it passes
pub passes-filtered : {A : Type 0} (p : A → Bool) (xs : List A) (x : A) → Contains (filter p xs) x → p x ≡ true
passes-filtered {A} p xs x inside = All-contains (λ (y : A). p y ≡ true) (filter p xs) x (filter_passes p xs) inside

pub Contains-map :
    {A B : Type 0} (f : A → B) (xs : List A) (x : A) → Contains xs x → Contains (map f xs) (f x)
Contains-map f [] x inside = not_in_nil x inside
Contains-map f (y ∷ ys) x inside = elim (Contains-cases y ys x inside) [
  | inl same ↦ (0, omega arith, ap f same)
  | inr rest ↦ Contains-tail (f y) (map f ys) (f x) (Contains-map f ys x rest)
]

-- what an item of a mapped list comes from
pub record ComesFrom {A B : Type 0} (f : A → B) (xs : List A) (y : B) : Type 0 where
  pub source : A
  pub inside : Contains xs source
  pub is : f source ≡ y

pub ComesFrom-map : {A B : Type 0} (f : A → B) (xs : List A) (y : B) → Contains (map f xs) y → ComesFrom f xs y
ComesFrom-map f [] y inside = not_in_nil y inside
ComesFrom-map f (x ∷ xs) y inside = elim (Contains-cases (f x) (map f xs) y inside) [
  | inl same ↦ record { source = x; inside = (0, omega arith, refl); is = same }
  | inr rest ↦
      let come = ComesFrom-map f xs y rest in
      record { source = come.source; inside = Contains-tail x xs come.source come.inside; is = come.is }
]

-- a numbered item is at its number
pub slice_get-numbered :
    {A : Type 0} (xs : List A) (numbered : ℕ × A) →
    Contains (enumerate_from 0 xs) numbered → slice_get xs numbered.0 ≡ Some numbered.1
slice_get-numbered {A} xs numbered (k, within, is) =
    let sized = length-enumerate_from 0 xs in
    let there : k < length xs = omega arith in
    let at = get_or-enumerate_from 0 xs k numbered there in
    let here : (0 + k, get_or xs k numbered.1) ≡ numbered = sym at ∙ is in
    let number : k ≡ numbered.0 = let first : 0 + k ≡ k = omega arith in sym first ∙ ap (λ (pair : ℕ × A). pair.0) here in
    ap (λ n. slice_get xs n) (sym number)
    ∙ slice_get-get_or xs k numbered.1 there
    ∙ ap (λ (pair : ℕ × A). Some pair.1) here

-- and the item at a number is numbered
pub Contains-numbered :
    {A : Type 0} (xs : List A) (k : ℕ) (x : A) → slice_get xs k ≡ Some x → Contains (enumerate_from 0 xs) (k, x)
Contains-numbered {A} xs k x there =
    let within = slice_get_within xs k x there in
    let sized = length-enumerate_from 0 xs in
    let first : 0 + k ≡ k = omega arith in
    let at : get_or (enumerate_from 0 xs) k (k, x) ≡ (k, x) =
    get_or-enumerate_from 0 xs k (k, x) within
    ∙ ap (λ n. (n, get_or xs k x)) first
    ∙ ap (λ (y : A). (k, y)) (get_or_from_slice_get xs k x x there) in
    (k, omega arith, at)

-- an option that a test finds is there
pub record IsThere {A : Type 0} (o : Option A) : Type 0 where
  pub item : A
  pub is : o ≡ Some item

pub IsThere-test : {A : Type 0} (f : A → Bool) (o : Option A) → option_map_or f o false ≡ true → IsThere o
IsThere-test f None test = absurd (false≢true test)
IsThere-test f (Some x) test = record { item = x; is = refl }

-- what a search finds passes
pub passes-found : {A : Type 0} (p : A → Bool) (xs : List A) (x : A) → find p xs ≡ Some x → p x ≡ true
passes-found p [] x found = cc
passes-found {A} p (y ∷ ys) x found = cases (p y) refl found (λ later. passes-found p ys x later)
  where
    cases :
        (b : Bool) → p y ≡ b → cond b (Some y) (find p ys) ≡ Some x →
        (find p ys ≡ Some x → p x ≡ true) → p x ≡ true
    cases true passes found rest = let same : y ≡ x = cc in ap p (sym same) ∙ passes
    cases false fails found rest = rest found
