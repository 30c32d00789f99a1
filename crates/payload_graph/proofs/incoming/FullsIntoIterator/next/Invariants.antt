use Rattle.std.proofs.Common.{◌≡◌, length}
use Rattle.payload_graph.specs.Edges.{fulls_into_left}
use Rattle.payload_graph.proofs.incoming.FullsIntoIterator.next.Given as goal

abbrev pub invariant-loop-origin : goal.invariant-loop-origin
invariant-loop-origin l = fulls_into_left l.initial.self ≡ fulls_into_left l.self

abbrev pub decreases-loop-origin : goal.decreases-loop-origin
decreases-loop-origin l = length l.self.origins.now
