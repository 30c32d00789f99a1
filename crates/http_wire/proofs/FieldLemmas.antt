-- The fields of a head, one field at a time.
use Rattle.std.proofs.Common.{◌≡◌, ℕ, zero, suc, ◌+◌, ◌<◌, Bool, true, false, ◌||◌, cond, List, [], ◌∷◌, ◌++◌, map, length, get_or, take, refl, ap, ◌∙◌, arith}
use Rattle.std.specs.List.{list_any}
use Rattle.std.proofs.lemmas.List.{take_more, map-append, append-nil}
use Rattle.std.proofs.lemmas.Grind.{flat_map-append}
use Rattle.std.proofs.lemmas.List.Folds.{list_any-append}
use Rattle.http_wire.specs.Framing.{length_by}
use Rattle.http_wire.specs.Lengths.{IsLengthOf, length_for}
use Rattle.http_wire.specs.declared.heads.body_length.Length.{Length}
use Rattle.http_wire.specs.declared.heads.body_length.Length.TheVariants as lengths
use Rattle.http_wire.specs.Fields.{Pair, is_named, values_named}

pub map-take-more :
    {X Y : Type 0} (f : X → Y) (xs : List X) (at : ℕ) (d : X) →
    at < length xs →
    map f (take (at + 1) xs) ≡ map f (take at xs) ++ f (get_or xs at d) ∷ []
map-take-more f xs at d inside = ap (map f) (take_more xs at d inside) ∙ map-append f (take at xs) _

pub list_any-more :
    {X Y : Type 0} (test : Y → Bool) (f : X → Y) (xs : List X) (at : ℕ) (d : X) →
    at < length xs →
    list_any test (map f (take at xs)) ≡ false →
    test (f (get_or xs at d)) ≡ false →
    list_any test (map f (take (at + 1) xs)) ≡ false
list_any-more test f xs at d inside before here =
    ap (list_any test) (map-take-more f xs at d inside)
    ∙ list_any-append test (map f (take at xs)) _
    ∙ (λ k. before k || (here k || false))

pub or_true : (b : Bool) → (b || true) ≡ true
or_true true = refl
or_true false = refl

pub list_any-here :
    {X Y : Type 0} (test : Y → Bool) (f : X → Y) (xs : List X) (at : ℕ) (d : X) →
    at < length xs →
    test (f (get_or xs at d)) ≡ true →
    list_any test (map f xs) ≡ true
list_any-here test f [] at d inside here = absurd (omega arith)
list_any-here test f (x ∷ xs) zero d inside here = ap (λ b. b || list_any test (map f xs)) here
list_any-here test f (x ∷ xs) (suc at) d inside here =
    let rest = list_any-here test f xs at d (omega arith) here in
    ap (λ b. test (f x) || b) rest ∙ or_true (test (f x))

values-more :
    {X : Type 0} (name : List ℕ) (f : X → Pair) (xs : List X) (at : ℕ) (d : X) →
    at < length xs →
    values_named name (map f (take (at + 1) xs))
    ≡ values_named name (map f (take at xs)) ++ (cond (is_named name (f (get_or xs at d))) ((f (get_or xs at d)).1 ∷ []) [] ++ [])
values-more name f xs at d inside =
    ap (values_named name) (map-take-more f xs at d inside)
    ∙ flat_map-append (λ (field : Pair). cond (is_named name field) (field.1 ∷ []) []) (map f (take at xs)) (f (get_or xs at d) ∷ [])

pub values_named-more :
    {X : Type 0} (name : List ℕ) (f : X → Pair) (xs : List X) (at : ℕ) (d : X) →
    at < length xs →
    is_named name (f (get_or xs at d)) ≡ true →
    values_named name (map f (take (at + 1) xs)) ≡ values_named name (map f (take at xs)) ++ (f (get_or xs at d)).1 ∷ []
values_named-more name f xs at d inside named =
    values-more name f xs at d inside
    ∙ ap (λ b. values_named name (map f (take at xs)) ++ (cond b ((f (get_or xs at d)).1 ∷ []) [] ++ [])) named

pub values_named-same :
    {X : Type 0} (name : List ℕ) (f : X → Pair) (xs : List X) (at : ℕ) (d : X) →
    at < length xs →
    is_named name (f (get_or xs at d)) ≡ false →
    values_named name (map f (take (at + 1) xs)) ≡ values_named name (map f (take at xs))
values_named-same name f xs at d inside other =
    values-more name f xs at d inside
    ∙ ap (λ b. values_named name (map f (take at xs)) ++ (cond b ((f (get_or xs at d)).1 ∷ []) [] ++ [])) other
    ∙ append-nil (values_named name (map f (take at xs)))

-- what is kept gives the length, or the status of an error
pub length_by-kept :
    (kept : Length) (method : List ℕ) (values : List (List ℕ)) →
    IsLengthOf kept values →
    length_by method values ≡ length_for method kept
length_by-kept lengths.Missing method values none = ap (length_by method) none
length_by-kept (lengths.Known size) method values (value, alone, known) = ap (length_by method) alone ∙ known
length_by-kept (lengths.Refused why) method values (value, more, some, refused) = refused method
