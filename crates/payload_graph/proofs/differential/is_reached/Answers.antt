use Rattle.std.proofs.Common.{rules}
use Rattle.payload_graph.proofs.differential.is_reached.Goals as goal

pub returns-then-edge-reaches : goal.returns-then-edge-reaches
returns-then-edge-reaches c = search rules
