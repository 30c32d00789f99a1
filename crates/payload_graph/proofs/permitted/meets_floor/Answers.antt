use Rattle.std.proofs.Common.{rules}
use Rattle.payload_graph.proofs.permitted.meets_floor.Goals as goal

pub returns : goal.returns
returns c = search rules
