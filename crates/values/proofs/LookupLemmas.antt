-- What is found in a list by a key after one of its items is changed.
use Rattle.std.proofs.Common.{◌≡◌, ℕ, Bool, true, false, cond, ◌||◌, List, [], ◌∷◌, find, Option, Some, refl, ap, sym, ◌∙◌}
use Rattle.std.specs.List.{list_any}
use Rattle.std.specs.Option.{option_map}
use Rattle.std.specs.Str.{bytes_eq}
use Rattle.std.proofs.lemmas.Slice.Eq.{bytes_eq-Decides}
use Rattle.values.specs.Lists.{change}

-- the item's key is the wanted one
abbrev pub has_key : {A : Type 0} → (A → List ℕ) → List ℕ → A → Bool
has_key key wanted x = bytes_eq wanted (key x)

-- a changed item is found exactly where it was found, and where the wanted key is the changed one
find_changed :
    {A : Type 0} (f : A → A) (x : A) (others : Option A) (same before after : Bool) →
    before ≡ same →
    after ≡ same →
    cond after (Some (f x)) others ≡ cond same (option_map f (cond before (Some x) others)) (cond before (Some x) others)
find_changed f x others true before after was is =
    ap (λ b. cond b (Some (f x)) others) is ∙ sym (ap (λ b. option_map f (cond b (Some x) others)) was)
find_changed f x others false before after was is =
    ap (λ b. cond b (Some (f x)) others) is ∙ sym (ap (λ b. cond b (Some x) others) was)

-- an item that is not changed hides what is changed after it only if it is found itself
find_unchanged :
    {A : Type 0} (f : A → A) (x : A) (before after : Option A) (same here : Bool) →
    (same ≡ true → here ≡ false) →
    after ≡ cond same (option_map f before) before →
    cond here (Some x) after ≡ cond same (option_map f (cond here (Some x) before)) (cond here (Some x) before)
find_unchanged f x before after true here apart others =
    let fails = apart refl in
    ap (λ b. cond b (Some x) after) fails ∙ others ∙ sym (ap (λ b. option_map f (cond b (Some x) before)) fails)
find_unchanged f x before after false here apart others = ap (λ o. cond here (Some x) o) others

-- under the changed key the changed item is found, under any other what was found before
pub find-change :
    {A : Type 0} (key : A → List ℕ) (f : A → A) →
    ((x : A) → key (f x) ≡ key x) →
    (wanted changed : List ℕ) (xs : List A) →
    find (has_key key wanted) (change (has_key key changed) f xs) ≡ cond (bytes_eq wanted changed) (option_map f (find (has_key key wanted) xs)) (find (has_key key wanted) xs)
find-change {A} key f kept wanted changed [] = nowhere (bytes_eq wanted changed)
  where
    nowhere :
        (b : Bool) →
        find (has_key key wanted) [] ≡ cond b (option_map f (find (has_key key wanted) [])) (find (has_key key wanted) [])
    nowhere true = refl
    nowhere false = refl
find-change key f kept wanted changed (x ∷ xs) =
    cases (bytes_eq changed (key x)) refl (find-change key f kept wanted changed xs)
  where
    cases :
        (b : Bool) →
        bytes_eq changed (key x) ≡ b →
        find (has_key key wanted) (change (has_key key changed) f xs) ≡ cond (bytes_eq wanted changed) (option_map f (find (has_key key wanted) xs)) (find (has_key key wanted) xs) →
        find (has_key key wanted) (cond b (f x ∷ xs) (x ∷ change (has_key key changed) f xs)) ≡ cond (bytes_eq wanted changed) (option_map f (find (has_key key wanted) (x ∷ xs))) (find (has_key key wanted) (x ∷ xs))
    cases true found others =
        let decides = bytes_eq-Decides changed (key x) in
        let was : bytes_eq wanted (key x) ≡ bytes_eq wanted changed = ap (bytes_eq wanted) (sym (decides.0 found)) in
        find_changed f x (find (has_key key wanted) xs) (bytes_eq wanted changed) (bytes_eq wanted (key x)) (bytes_eq wanted (key (f x))) was (ap (bytes_eq wanted) (kept x) ∙ was)
    cases false fails others =
        let decides = bytes_eq-Decides wanted changed in
        find_unchanged f x (find (has_key key wanted) xs) (find (has_key key wanted) (change (has_key key changed) f xs)) (bytes_eq wanted changed) (bytes_eq wanted (key x)) (λ same. ap (λ (k : List ℕ). bytes_eq k (key x)) (decides.0 same) ∙ fails) others

-- where some item passes, one is found
pub Some-from_list_any :
    {A : Type 0} (p : A → Bool) (xs : List A) →
    list_any p xs ≡ true →
    (x : A) × (find p xs ≡ Some x)
Some-from_list_any p [] h = absurd cc
Some-from_list_any {A} p (x ∷ xs) h = cases (p x) h (Some-from_list_any p xs)
  where
    cases :
        (b : Bool) →
        (b || list_any p xs) ≡ true →
        (list_any p xs ≡ true → (y : A) × (find p xs ≡ Some y)) →
        (y : A) × (cond b (Some x) (find p xs) ≡ Some y)
    cases true some later = (x, refl)
    cases false some later = later some
