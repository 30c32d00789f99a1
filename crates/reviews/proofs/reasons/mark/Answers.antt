use Rattle.std.proofs.Common.{true, false, ◌∙◌, arith}
use Rattle.std.proofs.lemmas.List.{set-get_or}
use Rattle.reviews.proofs.ReasonLemmas.{AreMarked-next}
use Rattle.reviews.proofs.reasons.mark.Goals as goal
use Rattle.reviews.proofs.reasons.mark.Goals.{then-flags-index, else-flags-index}

pub loop-index-preserved : goal.loop-index-preserved
loop-index-preserved c = elim c.if-flags-index.branch [
  | then-flags-index w ↦
      AreMarked-next c.args.cause c.args.flags.now c.args.reasons.now c.loop-index.reasons c.if-flags-index.reasons c.loop-index.index true
      (omega arith) w.if-flags-index.true w.reasons-is c.loop-index.invariant
  | else-flags-index w ↦
      AreMarked-next c.args.cause c.args.flags.now c.args.reasons.now c.loop-index.reasons c.if-flags-index.reasons c.loop-index.index false
      (omega arith) w.if-flags-index.false (w.reasons-is ∙ set-get_or c.loop-index.reasons c.loop-index.index _) c.loop-index.invariant
]
