-- The largest value, beside that of one release more.
use Rattle.std.proofs.Common.{◌≡◌, ℕ, ◌+◌, ◌<◌, ◌≤◌, inl, inr, List, leb, Option, None, Some, sym, ap, ◌∙◌, arith}
use Rattle.std.proofs.lemmas.Bool.{cases_eq, cond_both, leb-false, leb-true}
use Rattle.reviews.specs.Largest.{IsLargestBefore, IsLargestOf, larger_of, value_at}
use Rattle.reviews.specs.declared.largest.Largest.{Largest}

clash : {P : Type 0} (o : Option ℕ) (value : ℕ) → o ≡ None → o ≡ Some value → P
clash o value none some = absurd (let both : None ≡ Some value = sym none ∙ some in cc)

module _ (values : List (Option ℕ)) (count : ℕ) where
  -- a release without a value
  IsLargestOf-without : (best : Largest) → value_at values count ≡ None → IsLargestOf values count best → IsLargestOf values (count + 1) best
  IsLargestOf-without best none is =
      let within = is.within in
      record {
        within = omega arith;
        is = is.is;
        most = λ release value inside found. elim (cases_eq release count) [
          | inl same ↦ clash (value_at values count) value none (sym (ap (value_at values) same) ∙ found)
          | inr apart ↦ is.most release value (omega arith) found
        ];
        lowest = is.lowest;
      }

  -- a release with a value that is no larger
  IsLargestOf-kept : (best : Largest) (own : ℕ) → value_at values count ≡ Some own → own ≤ best.value → IsLargestOf values count best → IsLargestOf values (count + 1) best
  IsLargestOf-kept best own has small is =
      let within = is.within in
      record {
        within = omega arith;
        is = is.is;
        most = λ release value inside found. elim (cases_eq release count) [
          | inl same ↦
              let both : Some own ≡ Some value = sym has ∙ sym (ap (value_at values) same) ∙ found in
              let equal : own ≡ value = cc in
              omega arith
          | inr apart ↦ is.most release value (omega arith) found
        ];
        lowest = is.lowest;
      }

  -- a release with a larger one
  IsLargestOf-new : (own : ℕ) → value_at values count ≡ Some own → ((release value : ℕ) → release < count → value_at values release ≡ Some value → value < own) → IsLargestOf values (count + 1) (record { from = count; value = own })
  IsLargestOf-new own has larger =
      record {
        within = omega arith;
        is = has;
        most = λ release value inside found. elim (cases_eq release count) [
          | inl same ↦
              let both : Some own ≡ Some value = sym has ∙ sym (ap (value_at values) same) ∙ found in
              let equal : own ≡ value = cc in
              omega arith
          | inr apart ↦ let less = larger release value (omega arith) found in omega arith
        ];
        lowest = larger;
      }

  pub IsLargestBefore-larger :
      (best : Option Largest) (own : Option ℕ) → value_at values count ≡ own → IsLargestBefore values count best →
      IsLargestBefore values (count + 1) (larger_of best count own)
  IsLargestBefore-larger None None has is = λ release within. elim (cases_eq release count) [
    | inl same ↦ ap (value_at values) same ∙ has
    | inr apart ↦ is release (omega arith)
  ]
  IsLargestBefore-larger (Some best) None has is = IsLargestOf-without best has is
  IsLargestBefore-larger None (Some own) has is =
      IsLargestOf-new own has (λ release value within found. clash (value_at values release) value (is release within) found)
  IsLargestBefore-larger (Some best) (Some own) has is =
      cond_both (leb own best.value) (Some best) (Some (record { from = count; value = own })) (IsLargestBefore values (count + 1))
      (λ small. IsLargestOf-kept best own has (leb-true own best.value small) is)
      (λ large.
      let more = leb-false own best.value large in
      IsLargestOf-new own has (λ release value within found. let less = is.most release value within found in omega arith))
