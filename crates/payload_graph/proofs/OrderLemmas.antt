-- Releases by ascending version: the order of their versions is that of their indexes.
use Rattle.std.proofs.Common.{◌≡◌, ℕ, zero, suc, ◌<◌, ◌≤◌, inl, inr, Bool, true, false, List, [], ◌∷◌, length, get_or, sym, ap, ◌∙◌, arith}
use Rattle.std.specs.List.{list_all}
use Rattle.std.proofs.lemmas.Bool.{and_parts, cases_eq, false_from_ne_true, false≢true}
use Rattle.catalogue.specs.VersionLaws.{BelowIsIrreflexive, BelowIsTransitive}
use Rattle.catalogue.specs.Versions.{is_below}
use Rattle.values.specs.Ordered.{ascend}
use Rattle.catalogue.specs.Validity.{is_release_below}
use Rattle.catalogue.specs.declared.content.Release.{Release}

pub list_all-get_or :
    {A : Type 0} (p : A → Bool) (xs : List A) (k : ℕ) (d : A) →
    list_all p xs ≡ true → k < length xs → p (get_or xs k d) ≡ true
list_all-get_or p [] k d all within = absurd (omega arith)
list_all-get_or p (x ∷ xs) zero d all within = (and_parts (p x) (list_all p xs) all).0
list_all-get_or p (x ∷ xs) (suc k) d all within =
    list_all-get_or p xs k d (and_parts (p x) (list_all p xs) all).1 (omega arith)

pub ascend-get_or :
    {A : Type 0} (before : A → A → Bool) (xs : List A) (i j : ℕ) (d : A) →
    ascend before xs ≡ true → i < j → j < length xs →
    before (get_or xs i d) (get_or xs j d) ≡ true
ascend-get_or before [] i j d rises less within = absurd (omega arith)
ascend-get_or before (x ∷ xs) i zero d rises less within = absurd (omega arith)
ascend-get_or before (x ∷ xs) zero (suc j) d rises less within =
    list_all-get_or (before x) xs j d (and_parts (list_all (before x) xs) (ascend before xs) rises).0 (omega arith)
ascend-get_or before (x ∷ xs) (suc i) (suc j) d rises less within =
    ascend-get_or before xs i j d (and_parts (list_all (before x) xs) (ascend before xs) rises).1 (omega arith) (omega arith)

-- of two releases the one of the lower index is below the other
pub below_at :
    (releases : List Release) (d : Release) (i j : ℕ) →
    ascend is_release_below releases ≡ true → i < j → j < length releases →
    is_below (get_or releases i d).version (get_or releases j d).version ≡ true
below_at releases d i j rises less within = ascend-get_or is_release_below releases i j d rises less within

module _ (irreflexive : BelowIsIrreflexive) (transitive : BelowIsTransitive) where
  -- a release isn't below one of no higher index
  pub not_below_at :
      (releases : List Release) (d : Release) (i j : ℕ) →
      ascend is_release_below releases ≡ true → j ≤ i → i < length releases →
      is_below (get_or releases i d).version (get_or releases j d).version ≡ false
  not_below_at releases d i j rises less within = elim (cases_eq j i) [
    | inl same ↦
        ap (λ n. is_below (get_or releases i d).version (get_or releases n d).version) same
        ∙ irreflexive (get_or releases i d).version
    | inr other ↦
        false_from_ne_true _ (λ up.
        false≢true (sym (irreflexive (get_or releases j d).version)
        ∙ transitive (get_or releases j d).version (get_or releases i d).version (get_or releases j d).version (below_at releases d j i rises (omega arith) within) up))
  ]
