-- One step more along the first payloads.
use Rattle.std.proofs.Common.{◌≡◌, ℕ, ◌+◌, ◌-◌, ◌<◌, suc, List, Option, Some, ap, ◌∙◌, arith}
use Rattle.std.specs.Option.{option_map_or}
use Rattle.catalogue.specs.declared.content.App.{App}
use Rattle.reviews.specs.Steps.{next_at, steps_within}
use Rattle.reviews.specs.declared.outcome.Outcome.{Outcome}

module _ (app : App) (outcomes : List Outcome) where
  steps_within-next : (more from to : ℕ) → next_at app outcomes from ≡ Some to → steps_within app outcomes (suc more) from ≡ suc (steps_within app outcomes more to)
  steps_within-next more from to is = ap (λ (o : Option ℕ). option_map_or (λ to. suc (steps_within app outcomes more to)) o 0) is

  pub steps_within-step :
      (total count steps from to : ℕ) → steps < count → total ≡ steps + steps_within app outcomes (count - steps) from →
      next_at app outcomes from ≡ Some to → total ≡ steps + 1 + steps_within app outcomes (count - (steps + 1)) to
  steps_within-step total count steps from to within so_far is =
      let more = count - (steps + 1) in
      let size : count - steps ≡ suc more = omega arith in
      so_far
      ∙ ap (λ n. steps + steps_within app outcomes n from) size
      ∙ ap (λ n. steps + n) (steps_within-next more from to is)
      ∙ omega arith
