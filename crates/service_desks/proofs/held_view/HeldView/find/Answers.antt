use Rattle.std.proofs.Common.{[], Option, refl, sym, ◌∙◌, subst}
use Rattle.std.specs.Option.{option_map_or}
use Rattle.publisher.specs.Sights.{Sight, fresh}
use Rattle.service_desks.specs.Kept.{AreKept}
use Rattle.service_desks.proofs.KeptLemmas.{AreKept-found}
use Rattle.service_desks.proofs.held_view.HeldView.find.Goals as goal

pub invariant_of-self : goal.invariant_of-self
invariant_of-self c =
    let kept = c.self.inside.kept in
    let before =
    subst (λ (view : Option Sight). AreKept (option_map_or (λ (sight : Sight). sight) view (fresh [])) kept)
    (sym c.take.ensures.value ∙ c.in-Some.is) c.self.invariant.1 in (
      refl,
      AreKept-found kept c.in-Some.view c.args.name.now c.find_by-found.result.0 c.find_by-found.result.1 c.find_by-found.ensures before,
    )
