use Rattle.std.proofs.Common.{◌-◌, ◌≤◌, length}
use Rattle.payload_graph.specs.Chains.{index_of}
use Rattle.payload_graph.proofs.differential.seek.Given as goal

abbrev pub invariant-loop-index : goal.invariant-loop-index
invariant-loop-index l = l.index ≤ index_of l.releases l.version

abbrev pub decreases-loop-index : goal.decreases-loop-index
decreases-loop-index l = length l.releases - l.index
