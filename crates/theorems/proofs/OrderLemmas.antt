-- Releases by ascending version: what the order of versions says of indexes.
use Rattle.std.proofs.Common.{◌≡◌, ℕ, ◌<◌, ◌≤◌, inl, inr, true, false, List, Some, sym, ap, ◌∙◌}
use Rattle.std.specs.List.{slice_get}
use Rattle.std.proofs.lemmas.Bool.{cases_lt, cases_order, false≢true}
use Rattle.catalogue.specs.VersionLaws.{BelowIsIrreflexive, BelowIsTransitive}
use Rattle.catalogue.specs.Versions.{is_below}
use Rattle.values.specs.Ordered.{ascend}
use Rattle.catalogue.specs.Validity.{is_release_below}
use Rattle.catalogue.specs.declared.content.Release.{Release}
use Rattle.theorems.proofs.ItemLemmas.{ascend-slice_get}

module _ (irreflexive : BelowIsIrreflexive) (transitive : BelowIsTransitive) (releases : List Release)
    (ascends : ascend is_release_below releases ≡ true) where
  -- a release that is below another comes before it
  pub index-below :
      (low high : ℕ) (first second : Release) →
      slice_get releases low ≡ Some first → slice_get releases high ≡ Some second →
      is_below first.version second.version ≡ true → low < high
  index-below low high first second at_low at_high below = elim (cases_order low high) [
    | inl same ↦
        let one : first ≡ second = cc in
        absurd (false≢true (sym (irreflexive first.version) ∙ ap (λ (r : Release). is_below first.version r.version) one ∙ below))
    | inr (inl less) ↦ less
    | inr (inr more) ↦
        let turned = ascend-slice_get is_release_below releases high low second first ascends more at_high at_low in
        absurd (false≢true (sym (irreflexive first.version) ∙ transitive first.version second.version first.version below turned))
  ]

  -- a release that isn't below another comes after it, or is the same
  pub index-not_below :
      (low high : ℕ) (first second : Release) →
      slice_get releases low ≡ Some first → slice_get releases high ≡ Some second →
      is_below first.version second.version ≡ false → high ≤ low
  index-not_below low high first second at_low at_high not_below = elim (cases_lt low high) [
    | inl less ↦
        let below = ascend-slice_get is_release_below releases low high first second ascends less at_low at_high in
        absurd (false≢true (sym not_below ∙ below))
    | inr past ↦ past
  ]
