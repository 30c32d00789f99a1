-- The index of a release among releases by ascending version.
use Rattle.std.proofs.Common.{◌≡◌, ℕ, zero, suc, ◌<◌, Bool, true, false, cond, List, [], ◌∷◌, length, ltb, get_or, None, Some, refl, sym, ap, ◌∙◌, subst, arith}
use Rattle.std.specs.List.{list_all, position}
use Rattle.std.specs.Str.{bytes_eq}
use Rattle.std.proofs.lemmas.Bool.{and_parts, false≢true, lt-ltb}
use Rattle.std.proofs.lemmas.List.Sums.{AllPass-from_list_all, position_or_len_is}
use Rattle.std.proofs.lemmas.Slice.Eq.{bytes_eq-Decides}
use Rattle.values.specs.Ordered.{ascend}
use Rattle.catalogue.specs.VersionLaws.{BelowIsIrreflexive}
use Rattle.catalogue.specs.Versions.{is_below}
use Rattle.catalogue.specs.Lookups.{is_release}
use Rattle.catalogue.specs.Validity.{is_release_below}
use Rattle.catalogue.specs.declared.content.Release.{Release}

-- of two releases the first is below the second
is_release_below-at :
    (releases : List Release) (i j : ℕ) (d : Release) → ascend is_release_below releases ≡ true → i < j → j < length releases →
    is_release_below (get_or releases i d) (get_or releases j d) ≡ true
is_release_below-at [] i j d up first within = absurd (omega arith)
is_release_below-at (x ∷ xs) i zero d up first within = absurd (omega arith)
is_release_below-at (x ∷ xs) zero (suc j) d up first within =
    let parts = and_parts (list_all (is_release_below x) xs) (ascend is_release_below xs) up in
    AllPass-from_list_all (is_release_below x) xs parts.0 j d (omega arith)
is_release_below-at (x ∷ xs) (suc i) (suc j) d up first within =
    let parts = and_parts (list_all (is_release_below x) xs) (ascend is_release_below xs) up in
    is_release_below-at xs i j d parts.1 (omega arith) (omega arith)

module _ (irreflexive : BelowIsIrreflexive) (version : List ℕ) (releases : List Release) (i : ℕ) (d : Release) (up : ascend is_release_below releases ≡ true) (within : i < length releases) (here : bytes_eq version (get_or releases i d).version ≡ true) where
  -- no release before that of a version has it
  is_release-before : (k : ℕ) → k < i → is_release version (get_or releases k d) ≡ false
  is_release-before k less = cases (bytes_eq version (get_or releases k d).version) refl
    where
      cases : (b : Bool) → bytes_eq version (get_or releases k d).version ≡ b → b ≡ false
      cases false other = refl
      cases true same =
          let low : version ≡ (get_or releases k d).version = (bytes_eq-Decides version (get_or releases k d).version).0 same in
          let high : version ≡ (get_or releases i d).version = (bytes_eq-Decides version (get_or releases i d).version).0 here in
          let below : is_below version (get_or releases i d).version ≡ true =
          subst (λ (v : List ℕ). is_below v (get_or releases i d).version ≡ true) (sym low) (is_release_below-at releases k i d up less within) in
          let itself : is_below version version ≡ true = subst (λ (v : List ℕ). is_below version v ≡ true) (sym high) below in
          absurd (false≢true (sym (irreflexive version) ∙ itself))

  -- a release of a version is found at its index
  pub position-there : Some i ≡ position (is_release version) releases
  position-there =
      let first = position_or_len_is (is_release version) releases i d (omega arith) is_release-before (λ inside. here) in
      sym
      (ap (λ n. cond (ltb n (length releases)) (Some n) None) first
      ∙ ap (λ b. cond b (Some i) None) (lt-ltb i (length releases) within))
