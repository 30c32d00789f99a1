use Rattle.std.proofs.Common.{rules}
use Rattle.payload_graph.proofs.permitted.is_stone_between.Goals as goal

pub returns-else-release : goal.returns-else-release
returns-else-release c = search rules
