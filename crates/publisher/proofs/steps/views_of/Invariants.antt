use Rattle.std.proofs.Common.{◌≡◌, All, length}
use Rattle.std.specs.Arc.{arc_value}
use Rattle.left_right.specs.Sides.{view as heard_by}
use Rattle.publisher.specs.Sights.{fresh}
use Rattle.publisher.proofs.steps.views_of.Given as goal

abbrev pub invariant-loop-index : goal.invariant-loop-index
invariant-loop-index l =
    (heard_by l.writer.desk.place ≡ heard_by l.fn.writer.desk.place)
    × (l.writer.desk.shown ≡ l.fn.writer.desk.shown)
    × (length l.views.items ≡ l._index)
    × All (λ view. view ≡ fresh (arc_value l.fn.writer.desk.shown.value.edition)) l.views.items
