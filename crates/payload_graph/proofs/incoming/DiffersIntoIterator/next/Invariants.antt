use Rattle.std.proofs.Common.{◌≡◌, length}
use Rattle.payload_graph.specs.Edges.{differs_into_left}
use Rattle.payload_graph.proofs.incoming.DiffersIntoIterator.next.Given as goal

abbrev pub invariant-loop-edge : goal.invariant-loop-edge
invariant-loop-edge l = differs_into_left l.initial.self ≡ differs_into_left l.self

abbrev pub decreases-loop-edge : goal.decreases-loop-edge
decreases-loop-edge l = length l.self.differs.now
