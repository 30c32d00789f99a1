use Rattle.std.proofs.Common.{rules}
use Rattle.payload_graph.proofs.permitted.permits_differ.Goals as goal

pub returns-then-is_offered_at : goal.returns-then-is_offered_at
returns-then-is_offered_at c = search rules
