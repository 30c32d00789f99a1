use Rattle.reviews.proofs.later.find_among.Given as goal

abbrev pub invariant-loop-index : goal.invariant-loop-index
invariant-loop-index l = Unit {0}
