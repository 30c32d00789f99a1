use Rattle.reviews.proofs.ReasonLemmas.{AreMarked}
use Rattle.reviews.proofs.reasons.mark.Given as goal

abbrev pub invariant-loop-index : goal.invariant-loop-index
invariant-loop-index l = AreMarked l.cause l.flags l.initial.reasons l.reasons l.index
