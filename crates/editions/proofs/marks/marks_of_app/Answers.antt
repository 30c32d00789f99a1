use Rattle.std.proofs.Common.{ap, ◌∙◌}
use Rattle.std.proofs.lemmas.List.{get_or_default}
use Rattle.editions.proofs.MarkLemmas.{AreEach-more}
use Rattle.editions.specs.Marks.{may_change, IsMark}
use Rattle.editions.proofs.marks.marks_of_app.Goals as goal

pub loop-index-preserved : goal.loop-index-preserved
loop-index-preserved c =
    let before = c.args.before.now in
    let made = c.args.made.now in
    let index = c.loop-index.index in
    let cohort = c.index-made-index.result in
    AreEach-more (IsMark before made) index c.loop-index.marks.items c.push.new.self.items c.may_change.result c.loop-index.invariant
    (λ d. c.may_change.ensures ∙ ap (may_change before index) (c.index-made-index.is ∙ get_or_default made index cohort d c.loop-index-test.true))
    c.in_ok-push.ensures.items
