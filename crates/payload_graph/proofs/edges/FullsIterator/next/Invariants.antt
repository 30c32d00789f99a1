use Rattle.std.proofs.Common.{◌≡◌, length}
use Rattle.payload_graph.specs.Edges.{fulls_left}
use Rattle.payload_graph.proofs.edges.FullsIterator.next.Given as goal

abbrev pub invariant-loop-door : goal.invariant-loop-door
invariant-loop-door l = fulls_left l.initial.self ≡ fulls_left l.self

abbrev pub decreases-loop-door : goal.decreases-loop-door
decreases-loop-door l = length l.self.doors.now
