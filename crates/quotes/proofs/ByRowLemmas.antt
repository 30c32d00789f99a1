-- The rows of a certified table say what a place's clients are offered.
use Rattle.std.proofs.Common.{◌≡◌, ℕ, zero, suc, ◌+◌, ◌<◌, ◌≤◌, ◌⊎◌, inl, inr, ltb, List, length, Option, None, Some, refl, sym, ap, ◌∙◌, subst, arith}
use Rattle.std.specs.Option.{option_map_or}
use Rattle.std.proofs.lemmas.Bool.{cases_lt, cond_both, ltb-false, ltb-true}
use Rattle.catalogue.specs.VersionLaws.{BelowIsIrreflexive}
use Rattle.catalogue.specs.Validity.{IsValidApp}
use Rattle.catalogue.specs.declared.content.App.{App}
use Rattle.catalogue.specs.declared.content.Cohort.{Cohort}
use Rattle.payload_graph.specs.declared.payload.TrackKey.{TrackKey}
use Rattle.payload_graph.specs.declared.place.Place.TheVariants.{At, Outside}
use Rattle.payload_graph.specs.Laws.{DiffersArePermitted, FullsArePermitted}
use Rattle.payload_graph.specs.Net.{Net, net_in}
use Rattle.price_cert.specs.Laws.{ArePrices, CertifiedPricesAreLeast}
use Rattle.price_cert.specs.declared.row.Row.{Row}
use Rattle.quotes.proofs.ChainLemmas.{prices_are_least_on_tracks}
use Rattle.quotes.proofs.QuoteLemmas.{quote-served}
use Rattle.quotes.proofs.QuoteTrackLemmas.{HasIsTrack-track, HasTrack-net_in}
use Rattle.quotes.proofs.VisitorLemmas.{quote-best}
use Rattle.quotes.specs.ByRows.{CertifiedRowsQuote, beside, best_way, quote_by_rows, quote_in_cohort, smaller_way}
use Rattle.quotes.specs.Outside.{IsBest, IsBestOf, best_quote, sum_into}
use Rattle.quotes.specs.Quotes.{IsQuote}
use Rattle.quotes.specs.declared.outside.Best.{Best}
use Rattle.quotes.specs.declared.quote.Quote.{Quote}
use Rattle.quotes.specs.declared.quote.Quote.TheVariants.{NoChain}

-- what holds of each index before a count and of the count holds one further
one_more :
    (P : ℕ → Type 0) (count : ℕ) → ((k : ℕ) → k < count → P k) → P count → (k : ℕ) → k < count + 1 → P k
one_more P count before last k within = elim (cases_lt k count) [
  | inl less ↦ before k less
  | inr past ↦ let same : count ≡ k = omega arith in subst P same last
]

-- a way isn't beaten by the one to a release
abbrev Beats : (ℕ → Option ℕ) → Best → ℕ → Type 0
Beats sums way to = (sum : ℕ) → sums to ≡ Some sum → (way.sum < sum) ⊎ ((way.sum ≡ sum) × (to ≤ way.to))

-- neither by one that has no sum
Beats-none : (sums : ℕ → Option ℕ) (way : Best) (to : ℕ) → sums to ≡ None → Beats sums way to
Beats-none sums way to none sum is =
    let clash : None ≡ Some sum = sym none ∙ is in
    cc

-- nor by itself
Beats-self : (sums : ℕ → Option ℕ) (to own : ℕ) → sums to ≡ Some own → Beats sums (record { to = to; sum = own }) to
Beats-self sums to own is sum found =
    let both : Some own ≡ Some sum = sym is ∙ found in
    let same : own ≡ sum = cc in
    inr (same, omega arith)

-- a way of a smaller or equal sum to a higher release beats what another one does
Beats-smaller :
    (sums : ℕ → Option ℕ) (old new : Best) (to : ℕ) → new.sum ≤ old.sum → to ≤ new.to → Beats sums old to → Beats sums
    new to
Beats-smaller sums old new to low high beats sum found = elim (beats sum found) [
  | inl less ↦ inl (omega arith)
  | inr tie ↦
      let equal = tie.0 in
      elim (cases_lt new.sum sum) [
        | inl less ↦ inl less
        | inr past ↦ let same : new.sum ≡ sum = omega arith in inr (same, high)
      ]
]

-- the best way before a release, beside the way to it
module _ (sums : ℕ → Option ℕ) (count : ℕ) where
  IsBest-without : (best : Option Best) → sums count ≡ None → IsBest sums count best → IsBest sums (count + 1) best
  IsBest-without None none is = one_more (λ k. sums k ≡ None) count is none
  IsBest-without (Some best) none is =
      let within = is.within in
      record {
        within = omega arith;
        is = is.is;
        least = λ to sum inside found.
            one_more (Beats sums best) count (λ k less other there. is.least k other less there)
            (Beats-none sums best count none) to inside sum found;
      }

  IsBest-only : (sum : ℕ) → sums count ≡ Some sum → IsBest sums count None → IsBest sums (count + 1)
      (Some (record { to = count; sum = sum }))
  IsBest-only sum own is =
      let way : Best = record { to = count; sum = sum } in
      record {
        within = omega arith;
        is = own;
        least = λ to other inside found.
            one_more (Beats sums way) count (λ k less. Beats-none sums way k (is k less))
            (Beats-self sums count sum own) to inside other found;
      }

  IsBest-smaller :
      (best : Best) (sum : ℕ) → sums count ≡ Some sum → IsBestOf sums count best →
      IsBestOf sums (count + 1) (smaller_way best (record { to = count; sum = sum }))
  IsBest-smaller best sum own is =
      let way : Best = record { to = count; sum = sum } in
      let within = is.within in
      cond_both (ltb best.sum sum) best way (λ (b : Best). IsBestOf sums (count + 1) b)
      (λ less.
      let low = ltb-true best.sum sum less in
      record {
        within = omega arith;
        is = is.is;
        least = λ to other inside found.
            one_more (Beats sums best) count (λ k before last there. is.least k last before there)
            (λ last there.
            let both : Some sum ≡ Some last = sym own ∙ there in
            let same : sum ≡ last = cc in
            inl (omega arith))
            to inside other found;
      })
      (λ past.
      let high = ltb-false best.sum sum past in
      record {
        within = omega arith;
        is = own;
        least = λ to other inside found.
            one_more (Beats sums way) count
            (λ k before. Beats-smaller sums best way k high (omega arith) (λ last there. is.least k last before there))
            (Beats-self sums count sum own) to inside other found;
      })

  IsBest-beside : (best : Option Best) (sum : Option ℕ) → sums count ≡ sum → IsBest sums count best → IsBest sums
      (count + 1) (beside best count sum)
  IsBest-beside best None own is = IsBest-without best own is
  IsBest-beside None (Some sum) own is = IsBest-only sum own is
  IsBest-beside (Some best) (Some sum) own is = IsBest-smaller best sum own is

IsBest-best_way : (sums : ℕ → Option ℕ) (count : ℕ) → IsBest sums count (best_way sums count)
IsBest-best_way sums zero = λ to within. absurd (omega arith)
IsBest-best_way sums (suc count) =
    let next : count + 1 ≡ suc count = omega arith in
    subst (λ n. IsBest sums n (best_way sums (suc count))) next
    (IsBest-beside sums count (best_way sums count) (sums count) refl (IsBest-best_way sums count))

module _ (irreflexive : BelowIsIrreflexive) (fulls : FullsArePermitted) (differs : DiffersArePermitted) where
  quote-from_outside :
      (app : App) (key : TrackKey) (net : Net) (rows : List Row) (version : List ℕ) →
      IsValidApp app → net_in app key ≡ Some net → ArePrices net rows →
      IsQuote app key (Outside version) (quote_by_rows app key rows (Outside version))
  quote-from_outside app key net rows version valid there are =
      let at = HasTrack-net_in app key net there in
      let is = HasIsTrack-track app key net valid at in
      let sums = sum_into app.releases at.cohort key is.release.version version rows in
      let quote =
      quote-best app key at.cohort at.target is.release is.track rows
      (λ from within. prices_are_least_on_tracks irreflexive fulls differs app key net rows from valid there are within)
      version (best_way sums (length app.releases)) (IsBest-best_way sums (length app.releases)) in
      let cohort = ap (λ (o : Option Cohort). option_map_or (quote_in_cohort app key rows version) o NoChain)
      at.cohort_there in
      let target =
      ap (λ (o : Option (List ℕ)). option_map_or
      (λ (v : List ℕ). best_quote (best_way (sum_into app.releases at.cohort key v version rows) (length app.releases)))
      o NoChain) is.track.targeted in
      subst (λ (q : Quote). IsQuote app key (Outside version) q) (sym (cohort ∙ target)) quote

  pub certified_rows_quote : CertifiedPricesAreLeast → CertifiedRowsQuote
  certified_rows_quote least app key net rows (At release) valid there graph certified within =
      quote-served irreflexive fulls differs app key net rows valid there certified (least net rows graph certified)
      release within
  certified_rows_quote least app key net rows (Outside version) valid there graph certified within =
      quote-from_outside app key net rows version valid there (least net rows graph certified)
