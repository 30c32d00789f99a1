use Rattle.std.proofs.Common.{◌≡◌, arith, false, subst}
use Rattle.left_right.specs.Sides.{view as heard_by}
use Rattle.publisher.specs.Heard.{GoesOn}
use Rattle.publisher.specs.Sights.{Allows, Sight}
use Rattle.publisher.specs.Learnt.{heard_with, is_lost}
use Rattle.publisher.specs.declared.learnt.Learnt.{Learnt}
use Rattle.publisher.proofs.view.View.hear.Goals as goal

pub invariant_of-self : goal.invariant_of-self
invariant_of-self c fits =
    let longer = c.with.ensures.longer (heard_by c.self.inside.reader.place) fits in
    let same = c.replace-learnt.ensures.value in
    let known = c.self.invariant (subst (λ (what : Learnt). is_lost what ≡ false) same longer.0) in
    let number = c.number.ensures.count in
    grind (arith, known, same, longer.1, longer.2, c.max-self-inside.ensures, number, c.deref.ensures)

pub returns-clause-learnt : goal.returns-clause-learnt
returns-clause-learnt c now allows =
    let heard = heard_by c.self.inside.reader.place in
    let kept = c.with.ensures.learnt now heard allows.0 allows.1 in
    let same = c.replace-learnt.ensures.value in
    let before = subst (λ (what : Learnt). (is_lost what ≡ false) × GoesOn now (heard_with what heard)) same (kept.0, kept.1) in
    (subst (λ (sight : Sight). Allows sight now) c.self.view_is before, kept.2)
