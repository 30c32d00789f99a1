use Rattle.std.proofs.Common.{rules}
use Rattle.payload_graph.proofs.door.door_of.Goals as goal

pub returns : goal.returns
returns c = search rules
