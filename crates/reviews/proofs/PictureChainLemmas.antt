-- One package more along a chain.
use Rattle.std.proofs.Common.{◌≡◌, ℕ, zero, suc, ◌+◌, ◌-◌, ◌<◌, List, [], ◌∷◌, ◌++◌, Option, None, Some, ap, sym, ◌∙◌, refl, arith, append_assoc}
use Rattle.std.specs.Option.{option_map_or}
use Rattle.catalogue.specs.declared.content.App.{App}
use Rattle.reviews.specs.declared.review.TrackReview.{TrackReview}
use Rattle.reviews.specs.Scenes.{arrow_at, chain_within}
use Rattle.reviews.specs.declared.pictures.arrows.Arrow.{Arrow}

module _ (app : App) (review : TrackReview) where
  chain_within-next : (more from : ℕ) (arrow : Arrow) → arrow_at app review from ≡ Some arrow →
      chain_within app review (suc more) from ≡ arrow ∷ chain_within app review more arrow.to
  chain_within-next more from arrow is =
      ap (λ (o : Option Arrow). option_map_or (λ (arrow : Arrow). arrow ∷ chain_within app review more arrow.to) o []) is

  pub chain_within-step :
      (whole before : List Arrow) (count steps from : ℕ) (arrow : Arrow) → steps < count →
      whole ≡ before ++ chain_within app review (count - steps) from → arrow_at app review from ≡ Some arrow →
      whole ≡ (before ++ arrow ∷ []) ++ chain_within app review (count - (steps + 1)) arrow.to
  chain_within-step whole before count steps from arrow within so_far is =
      let more = count - (steps + 1) in
      let size : count - steps ≡ suc more = omega arith in
      so_far
      ∙ ap (λ n. before ++ chain_within app review n from) size
      ∙ ap (λ rest. before ++ rest) (chain_within-next more from arrow is)
      ∙ sym (append_assoc before (arrow ∷ []) (chain_within app review more arrow.to))

  pub chain_within-end : (count from : ℕ) → arrow_at app review from ≡ None → chain_within app review count from ≡ []
  chain_within-end zero from is = refl
  chain_within-end (suc more) from is =
      ap (λ (o : Option Arrow). option_map_or (λ (arrow : Arrow). arrow ∷ chain_within app review more arrow.to) o []) is
