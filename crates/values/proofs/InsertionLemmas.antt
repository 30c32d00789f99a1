-- One item put in somewhere in a list: what a map, a join and a look-up make of it.
use Rattle.std.proofs.Common.{◌≡◌, ℕ, Bool, true, false, cond, List, [], ◌∷◌, ◌++◌, map, find, take, drop, insert, Some, None, refl, ap, sym, ◌∙◌, append_assoc}
use Rattle.std.specs.List.{flat_map}
use Rattle.std.specs.Map.{lookup}
use Rattle.std.specs.Str.{bytes_eq}
use Rattle.std.proofs.lemmas.Bool.Decides.{same_from_decides}
use Rattle.std.proofs.lemmas.List.{append-nil, map-append, take-append-drop}
use Rattle.std.proofs.lemmas.Slice.Eq.{bytes_eq-Decides}
use Rattle.values.specs.Lists.{change}

-- `new` is `old` with the item put in somewhere
pub record Inserts {A : Type 0} (item : A) (old new : List A) : Type 0 where
  pub front : List A
  pub back : List A
  pub was : old ≡ front ++ back
  pub is : new ≡ front ++ item ∷ back

pub Inserts-insert : {A : Type 0} (xs : List A) (i : ℕ) (item : A) → Inserts item xs (insert xs i item)
Inserts-insert xs i item = record {
  front = take i xs;
  back = drop i xs;
  was = sym (take-append-drop i xs);
  is = refl;
}

pub Inserts-push : {A : Type 0} (xs : List A) (item : A) → Inserts item xs (xs ++ item ∷ [])
Inserts-push xs item = record { front = xs; back = []; was = sym (append-nil xs); is = refl }

pub Inserts-map :
    {A B : Type 0} (f : A → B) (item : A) (old new : List A) →
    Inserts item old new →
    Inserts (f item) (map f old) (map f new)
Inserts-map f item old new h = record {
  front = map f h.front;
  back = map f h.back;
  was = ap (map f) h.was ∙ map-append f h.front h.back;
  is = ap (map f) h.is ∙ map-append f h.front (item ∷ h.back);
}

pub Inserts-append_after :
    {A : Type 0} (item : A) (old new others : List A) →
    Inserts item old new →
    Inserts item (old ++ others) (new ++ others)
Inserts-append_after item old new others h = record {
  front = h.front;
  back = h.back ++ others;
  was = ap (λ xs. xs ++ others) h.was ∙ append_assoc h.front h.back others;
  is = ap (λ xs. xs ++ others) h.is ∙ append_assoc h.front (item ∷ h.back) others;
}

pub Inserts-append_before :
    {A : Type 0} (item : A) (old new others : List A) →
    Inserts item old new →
    Inserts item (others ++ old) (others ++ new)
Inserts-append_before item old new others h = record {
  front = others ++ h.front;
  back = h.back;
  was = ap (λ xs. others ++ xs) h.was ∙ sym (append_assoc others h.front h.back);
  is = ap (λ xs. others ++ xs) h.is ∙ sym (append_assoc others h.front (item ∷ h.back));
}

-- the found item is changed, and the change puts one more into what it gives
pub Inserts-flat_map_change :
    {A B : Type 0} (p : A → Bool) (f : A → A) (g : A → List B) (item : B) (xs : List A) (x : A) →
    find p xs ≡ Some x →
    Inserts item (g x) (g (f x)) →
    Inserts item (flat_map g xs) (flat_map g (change p f xs))
Inserts-flat_map_change p f g item [] x found h = absurd cc
Inserts-flat_map_change {A} {B} p f g item (y ∷ ys) x found h =
    cases (p y) found (λ later. Inserts-flat_map_change p f g item ys x later h)
  where
    cases :
        (b : Bool) →
        cond b (Some y) (find p ys) ≡ Some x →
        (find p ys ≡ Some x → Inserts item (flat_map g ys) (flat_map g (change p f ys))) →
        Inserts item (flat_map g (y ∷ ys)) (flat_map g (cond b (f y ∷ ys) (y ∷ change p f ys)))
    cases true first others =
        let same : x ≡ y = cc in
        Inserts-append_after item (g y) (g (f y)) (flat_map g ys) (rw same at h)
    cases false later others =
        Inserts-append_before item (flat_map g ys) (flat_map g (change p f ys)) (g y) (others later)

-- a change that leaves what each item gives leaves what the list gives
pub flat_map-change :
    {A B : Type 0} (p : A → Bool) (f : A → A) (g : A → List B) →
    ((x : A) → g (f x) ≡ g x) →
    (xs : List A) →
    flat_map g (change p f xs) ≡ flat_map g xs
flat_map-change p f g same [] = refl
flat_map-change p f g same (x ∷ xs) = cases (p x) (flat_map-change p f g same xs)
  where
    cases :
        (b : Bool) →
        flat_map g (change p f xs) ≡ flat_map g xs →
        flat_map g (cond b (f x ∷ xs) (x ∷ change p f xs)) ≡ g x ++ flat_map g xs
    cases true others = ap (λ ys. ys ++ flat_map g xs) (same x)
    cases false others = ap (λ ys. g x ++ ys) others

-- an entry that is put in is found if nothing was, and nothing else changes
lookup-insert :
    {K X : Type 0} (test : K → Bool) (entry : K × X) (front back : List (K × X)) →
    (test entry.0 ≡ true → lookup test (front ++ back) ≡ None) →
    lookup test (front ++ entry ∷ back) ≡ cond (test entry.0) (Some entry.1) (lookup test (front ++ back))
lookup-insert test entry [] back fresh = refl
lookup-insert {K} {X} test entry (e ∷ front) back fresh = cases (test e.0) fresh (lookup-insert test entry front back)
  where
    untested : (b : Bool) → (b ≡ true → Some e.1 ≡ None) → Some e.1 ≡ cond b (Some entry.1) (Some e.1)
    untested true h = let clash = h refl in cc
    untested false h = refl

    cases :
        (b : Bool) →
        (test entry.0 ≡ true → cond b (Some e.1) (lookup test (front ++ back)) ≡ None) →
        ((test entry.0 ≡ true → lookup test (front ++ back) ≡ None) → lookup test (front ++ entry ∷ back) ≡ cond (test entry.0) (Some entry.1) (lookup test (front ++ back))) →
        cond b (Some e.1) (lookup test (front ++ entry ∷ back)) ≡ cond (test entry.0) (Some entry.1) (cond b (Some e.1) (lookup test (front ++ back)))
    cases true h others = untested (test entry.0) h
    cases false h others = others h

-- equality of strings is turned round
pub bytes_eq-turn : (xs ys : List ℕ) → bytes_eq xs ys ≡ bytes_eq ys xs
bytes_eq-turn xs ys = same_from_decides (bytes_eq xs ys) (bytes_eq ys xs) (bytes_eq-Decides xs ys) (let turned = bytes_eq-Decides ys xs in (λ t. sym (turned.0 t), λ e. turned.1 (sym e)))

pub lookup-Inserts :
    {X : Type 0} (name : List ℕ) (value : X) (old new : List (List ℕ × X)) →
    Inserts (name, value) old new →
    lookup (bytes_eq name) old ≡ None →
    (other : List ℕ) →
    lookup (bytes_eq other) new ≡ cond (bytes_eq name other) (Some value) (lookup (bytes_eq other) old)
lookup-Inserts {X} name value old new h fresh other =
    let turned = bytes_eq-Decides other name in
    ap (lookup (bytes_eq other)) h.is
    ∙ lookup-insert (bytes_eq other) (name, value) h.front h.back (λ same. ap (lookup (bytes_eq other)) (sym h.was) ∙ ap (λ n. lookup (bytes_eq n) old) (turned.0 same) ∙ fresh)
    ∙ ap (λ b. cond b (Some value) (lookup (bytes_eq other) (h.front ++ h.back))) (bytes_eq-turn other name)
    ∙ ap (λ xs. cond (bytes_eq name other) (Some value) (lookup (bytes_eq other) xs)) (sym h.was)
