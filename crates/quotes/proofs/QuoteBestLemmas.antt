-- The best way, beside the full package of a next release that is no better.
use Rattle.std.proofs.Common.{◌≡◌, ℕ, ◌+◌, ◌<◌, inl, inr, Bool, true, false, if◌then◌else◌, Option, None, Some, refl, sym, ap, ◌∙◌, subst, arith}
use Rattle.std.specs.Option.{option_map}
use Rattle.std.proofs.lemmas.Bool.{cases_eq}
use Rattle.quotes.specs.Outside.{IsBest, IsBestOf}
use Rattle.quotes.specs.declared.outside.Best.{Best}

-- the sum by a package, if it is permitted and a chain goes on
abbrev sum_by : Bool → ℕ → Option ℕ → Option ℕ
sum_by permitted size price = if permitted then option_map (λ rest. size + rest) price else None

IsBestOf-next :
    (sums : ℕ → Option ℕ) (to : ℕ) (best : Best) →
    ((sum : ℕ) → sums to ≡ Some sum → best.sum < sum) → IsBestOf sums to best → IsBestOf sums (to + 1) best
IsBestOf-next sums to best larger is =
    let low = is.within in
    record {
      within = omega arith;
      is = is.is;
      least =
          λ k sum within found. elim (cases_eq k to) [
            | inl same ↦ inl (larger sum (sym (ap sums same) ∙ found))
            | inr other ↦ is.least k sum (omega arith) found
          ];
    }

IsBest-next :
    (sums : ℕ → Option ℕ) (to : ℕ) (best : Option Best) →
    sums to ≡ None → IsBest sums to best → IsBest sums (to + 1) best
IsBest-next sums to None none best =
    λ k within. elim (cases_eq k to) [
      | inl same ↦ ap sums same ∙ none
      | inr other ↦ best k (omega arith)
    ]
IsBest-next sums to (Some found) none best =
    IsBestOf-next sums to found (λ sum is. absurd (let both : None ≡ Some sum = sym none ∙ is in cc)) best

no_sum : (permitted : Bool) (size : ℕ) → sum_by permitted size None ≡ None
no_sum true size = refl
no_sum false size = refl

larger_sum :
    (permitted : Bool) (size rest bound sum : ℕ) → bound < size + rest →
    sum_by permitted size (Some rest) ≡ Some sum → bound < sum
larger_sum true size rest bound sum larger is =
    let same : size + rest ≡ sum = cc in
    subst (λ n. bound < n) same larger
larger_sum false size rest bound sum larger is = absurd cc

-- no chain goes on from the next release
pub IsBest-without_price :
    (sums : ℕ → Option ℕ) (to : ℕ) (best : Option Best) (permitted : Bool) (size : ℕ) (price : Option ℕ) →
    price ≡ None → sums to ≡ sum_by permitted size price → IsBest sums to best → IsBest sums (to + 1) best
IsBest-without_price sums to best permitted size price none is =
    IsBest-next sums to best (is ∙ ap (λ o. sum_by permitted size o) none ∙ no_sum permitted size)

-- the next release has a larger sum
pub IsBestOf-larger :
    (sums : ℕ → Option ℕ) (to : ℕ) (best : Option Best) (known : Best) (permitted : Bool) (size rest : ℕ) (price : Option ℕ) →
    best ≡ Some known → price ≡ Some rest → known.sum < size + rest → sums to ≡ sum_by permitted size price →
    IsBest sums to best → IsBestOf sums (to + 1) known
IsBestOf-larger sums to best known permitted size rest price same priced larger is best_is =
    IsBestOf-next sums to known
    (λ sum found. larger_sum permitted size rest known.sum sum larger (ap (λ o. sum_by permitted size o) (sym priced) ∙ sym is ∙ found))
    (subst (λ o. IsBest sums to o) same best_is)
