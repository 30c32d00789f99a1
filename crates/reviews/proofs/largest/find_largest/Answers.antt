use Rattle.std.proofs.Common.{◌+◌, sym, subst}
use Rattle.reviews.specs.Largest.{IsLargestBefore}
use Rattle.reviews.proofs.LargestLemmas.{IsLargestBefore-larger}
use Rattle.reviews.proofs.largest.find_largest.Goals as goal

pub loop-index-preserved : goal.loop-index-preserved
loop-index-preserved c =
    let values = c.args.values.now in
    let index = c.loop-index.index in
    subst (IsLargestBefore values (index + 1)) (sym c.larger-best.ensures)
    (IsLargestBefore-larger values index c.loop-index.best c.value_at.result (sym c.value_at.ensures) c.loop-index.invariant)
