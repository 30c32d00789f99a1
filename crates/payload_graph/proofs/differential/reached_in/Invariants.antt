use Rattle.std.proofs.Common.{◌≡◌, take}
use Rattle.std.specs.List.{filter}
use Rattle.payload_graph.specs.Soundness.{is_reached}
use Rattle.payload_graph.proofs.differential.reached_in.Given as goal

abbrev pub invariant-loop-edge : goal.invariant-loop-edge
invariant-loop-edge l = l.edges.items ≡ filter (is_reached l.target l.doors) (take l.edge-index l.resolved)
