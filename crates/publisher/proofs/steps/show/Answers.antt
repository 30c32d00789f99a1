use Rattle.std.proofs.Common.{◌≡◌, ap, drop, fold, ◌∙◌, Global}
use Rattle.std.specs.Arc.{arc_value}
use Rattle.catalogue.specs.Histories.{History}
use Rattle.publisher.proofs.RuleLemmas.{fold-last, turns}
use Rattle.publisher.proofs.steps.show.Goals as goal

pub publish_as-requires : goal.publish_as-requires
publish_as-requires g c next is =
    let before = c.append.new.self.desk.shown.value in
    let earlier = drop c.args.writer.behind c.args.writer.log.items in
    let pending = c.in-Ok.ensures.pending in
    let shown : arc_value next.edition ≡ arc_value c.args.next =
    is ∙ ap (fold (λ (_ : History) edition. arc_value {Z = Global} edition) (arc_value before.edition)) pending
    ∙ fold-last (arc_value {Z = Global}) (arc_value before.edition) earlier c.args.next
    in
    turns _ _ before next
    (rw shown (rw (ap (λ desk. arc_value desk.shown.value.edition) c.in-Ok.ensures.desk) c.requires))
