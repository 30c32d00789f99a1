-- Versions and pairs of versions are ordered.
use Rattle.std.proofs.Common.{◌≡◌, ℕ, ◌&&◌, ◌||◌, Bool, true, false, List, refl, ap, sym, ◌∙◌}
use Rattle.std.specs.Str.{bytes_eq}
use Rattle.std.proofs.lemmas.Bool.{and_from, and_parts, or_parts}
use Rattle.std.proofs.lemmas.Slice.Eq.{bytes_eq-Decides}
use Rattle.catalogue.specs.VersionLaws.{BelowIsIrreflexive, BelowIsTotal, BelowIsTransitive}
use Rattle.catalogue.specs.Versions.{is_below}
use Rattle.catalogue.specs.Lookups.{Pair, is_pair_below, same_pair}
use Rattle.values.specs.Ordered.{IsOrder}

-- what the laws of versions say of their order
pub record VersionLaws : Type 0 where
  pub irreflexive : BelowIsIrreflexive
  pub transitive : BelowIsTransitive
  pub total : BelowIsTotal

pub IsOrder-versions : VersionLaws → IsOrder is_below bytes_eq
IsOrder-versions laws = record {
  irreflexive = laws.irreflexive;
  transitive = laws.transitive;
  total = laws.total;
  equal = λ j k. (bytes_eq-Decides j k).0;
  reflexive = λ k. (bytes_eq-Decides k k).1 refl;
}

-- one of two facts holds
either : (b c : Bool) (P : Type 0) → (b ≡ true → P) → (b ≡ false → c ≡ true → P) → (b || c) ≡ true → P
either true c P left right is = left refl
either false c P left right is = right refl is

module _ (laws : VersionLaws) where
  equal_versions : (j k : List ℕ) → bytes_eq j k ≡ true → j ≡ k
  equal_versions j k = (bytes_eq-Decides j k).0

  pair_from_first : (i k : Pair) → is_below i.0 k.0 ≡ true → is_pair_below i k ≡ true
  pair_from_first i k first = ap (λ b. b || (bytes_eq i.0 k.0 && is_below i.1 k.1)) first

  pair_from_second : (i k : Pair) → bytes_eq i.0 k.0 ≡ true → is_below i.1 k.1 ≡ true → is_pair_below i k ≡ true
  pair_from_second i k same second = cases (is_below i.0 k.0)
    where
      cases : (b : Bool) → (b || (bytes_eq i.0 k.0 && is_below i.1 k.1)) ≡ true
      cases true = refl
      cases false = and_from _ _ same second

  pairs_irreflexive : (k : Pair) → is_pair_below k k ≡ false
  pairs_irreflexive k =
      ap (λ b. b || (bytes_eq k.0 k.0 && is_below k.1 k.1)) (laws.irreflexive k.0)
      ∙ ap (λ b. b && is_below k.1 k.1) ((bytes_eq-Decides k.0 k.0).1 refl)
      ∙ laws.irreflexive k.1

  pairs_transitive : (i j k : Pair) → is_pair_below i j ≡ true → is_pair_below j k ≡ true → is_pair_below i k ≡ true
  pairs_transitive i j k =
      λ lower upper.
      either (is_below i.0 j.0) (bytes_eq i.0 j.0 && is_below i.1 j.1) (is_pair_below i k ≡ true)
      (λ first.
      either (is_below j.0 k.0) (bytes_eq j.0 k.0 && is_below j.1 k.1) (is_pair_below i k ≡ true)
      (λ next. pair_from_first i k (laws.transitive i.0 j.0 k.0 first next))
      (λ not_next rest.
      let parts = and_parts (bytes_eq j.0 k.0) (is_below j.1 k.1) rest in
      pair_from_first i k (ap (is_below i.0) (sym (equal_versions j.0 k.0 parts.0)) ∙ first)) upper)
      (λ not_first rest.
      let here = and_parts (bytes_eq i.0 j.0) (is_below i.1 j.1) rest in
      let same = equal_versions i.0 j.0 here.0 in
      either (is_below j.0 k.0) (bytes_eq j.0 k.0 && is_below j.1 k.1) (is_pair_below i k ≡ true)
      (λ next. pair_from_first i k (ap (λ v. is_below v k.0) same ∙ next))
      (λ not_next more.
      let parts = and_parts (bytes_eq j.0 k.0) (is_below j.1 k.1) more in
      pair_from_second i k (ap (λ v. bytes_eq v k.0) same ∙ parts.0) (laws.transitive i.1 j.1 k.1 here.1 parts.1)) upper) lower

  pairs_total : (j k : Pair) → is_pair_below j k ≡ false → is_pair_below k j ≡ false → j ≡ k
  pairs_total j k not_below not_above =
      let lower = or_parts (is_below j.0 k.0) (bytes_eq j.0 k.0 && is_below j.1 k.1) not_below in
      let upper = or_parts (is_below k.0 j.0) (bytes_eq k.0 j.0 && is_below k.1 j.1) not_above in
      let first = laws.total j.0 k.0 lower.0 upper.0 in
      let second : j.1 ≡ k.1 =
      laws.total j.1 k.1
      (ap (λ b. b && is_below j.1 k.1) (sym ((bytes_eq-Decides j.0 k.0).1 first)) ∙ lower.1)
      (ap (λ b. b && is_below k.1 j.1) (sym ((bytes_eq-Decides k.0 j.0).1 (sym first))) ∙ upper.1) in
      ap (λ (v : List ℕ). (v, j.1)) first ∙ ap (λ (v : List ℕ). (k.0, v)) second

  equal_pairs : (j k : Pair) → same_pair j k ≡ true → j ≡ k
  equal_pairs j k is =
      let parts = and_parts (bytes_eq j.0 k.0) (bytes_eq j.1 k.1) is in
      ap (λ (v : List ℕ). (v, j.1)) (equal_versions j.0 k.0 parts.0)
      ∙ ap (λ (v : List ℕ). (k.0, v)) (equal_versions j.1 k.1 parts.1)

  pub IsOrder-pairs : IsOrder is_pair_below same_pair
  IsOrder-pairs = record {
    irreflexive = pairs_irreflexive;
    transitive = pairs_transitive;
    total = pairs_total;
    equal = equal_pairs;
    reflexive = λ k. and_from _ _ ((bytes_eq-Decides k.0 k.0).1 refl) ((bytes_eq-Decides k.1 k.1).1 refl);
  }
