-- Tests that agree on the items of a list.
use Rattle.std.proofs.Common.{◌≡◌, ◌&&◌, ◌||◌, Bool, List, [], ◌∷◌, refl, ap, ◌∙◌}
use Rattle.std.specs.List.{All, list_all, list_any}
use Rattle.std.proofs.lemmas.List.Elements.{All-head, All-tail}

pub list_all-agree : {A : Type 0} (p q : A → Bool) (xs : List A) → All (λ x. p x ≡ q x) xs → list_all p xs ≡ list_all q xs
list_all-agree p q [] agree = refl
list_all-agree {A} p q (x ∷ xs) agree =
    ap (λ b. b && list_all p xs) (All-head (λ (y : A). p y ≡ q y) x xs agree)
    ∙ ap (λ b. q x && b) (list_all-agree p q xs (All-tail (λ (y : A). p y ≡ q y) x xs agree))

pub list_any-agree : {A : Type 0} (p q : A → Bool) (xs : List A) → All (λ x. p x ≡ q x) xs → list_any p xs ≡ list_any q xs
list_any-agree p q [] agree = refl
list_any-agree {A} p q (x ∷ xs) agree =
    ap (λ b. b || list_any p xs) (All-head (λ (y : A). p y ≡ q y) x xs agree)
    ∙ ap (λ b. q x || b) (list_any-agree p q xs (All-tail (λ (y : A). p y ≡ q y) x xs agree))
