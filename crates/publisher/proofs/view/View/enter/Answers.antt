use Rattle.std.proofs.Common.{◌≡◌, ◌≤◌, [], rules, ap, subst, le_trans, length, ◌∙◌}
use Rattle.std.specs.Arc.{arc_value}
use Rattle.left_right.specs.Sides.{view as heard_by}
use Rattle.catalogue.specs.Histories.{History}
use Rattle.publisher.specs.Heard.{GoesOn}
use Rattle.publisher.specs.Sights.{Sight}
use Rattle.publisher.specs.Learnt.{heard_with}
use Rattle.publisher.proofs.HeardLemmas.{newest-le, starts_with-self}
use Rattle.publisher.proofs.RuleLemmas.{turns}
use Rattle.publisher.proofs.LearntLemmas.{goes_on-learnt}
use Rattle.publisher.proofs.view.View.enter.Goals as goal

pub enter_as-requires : goal.enter_as-requires
enter_as-requires c x = turns _ _ x x (starts_with-self _)

pub returns-then-fits-clause-entered : goal.returns-then-fits-clause-entered
returns-then-fits-clause-entered c = search rules

pub returns-then-fits-clause-rises : goal.returns-then-fits-clause-rises
returns-then-fits-clause-rises c =
    let what = c.self.inside.learnt in
    let heard = heard_by c.self.inside.reader.place in
    let now : History = arc_value c.in-Ok.reading.part.value.edition in
    let fits = c.fits.ensures.0 c.if-fits.true in
    let is : c.deref.result.now ≡ now = c.deref.ensures ∙ ap (λ shown. arc_value shown.edition) c.get.ensures in
    let of_learnt = subst (λ (history : History). GoesOn history (heard_with what [])) is fits.1 in
    let all = goes_on-learnt now what heard of_learnt c.in-Ok.ensures.1.1 in
    subst (λ (sight : Sight). sight.seen ≤ length now) c.self.view_is
    (le_trans (c.self.invariant fits.0) (newest-le now (heard_with what heard) all))
