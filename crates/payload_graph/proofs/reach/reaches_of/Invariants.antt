use Rattle.payload_graph.proofs.LoopLemmas.{HasReaches}
use Rattle.payload_graph.proofs.reach.reaches_of.Given as goal

abbrev pub invariant-loop-from : goal.invariant-loop-from
invariant-loop-from l = HasReaches l.target l.doors l.from l.reaches.items
