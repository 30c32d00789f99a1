use Rattle.payload_graph.proofs.WalkLemmas.{HasWalked}
use Rattle.payload_graph.proofs.differential.resolve.Given as goal

abbrev pub invariant-loop-shared : goal.invariant-loop-shared
invariant-loop-shared l = HasWalked l.releases l.diffs l.shared-index l.from l.to l.edges.items
