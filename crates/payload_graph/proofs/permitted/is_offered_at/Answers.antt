use Rattle.std.proofs.Common.{rules}
use Rattle.payload_graph.proofs.permitted.is_offered_at.Goals as goal

pub returns-then-is_offered : goal.returns-then-is_offered
returns-then-is_offered c = search rules
