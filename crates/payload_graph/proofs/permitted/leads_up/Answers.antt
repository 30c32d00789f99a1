use Rattle.std.proofs.Common.{rules}
use Rattle.payload_graph.proofs.permitted.leads_up.Goals as goal

pub returns-then-not-is_below : goal.returns-then-not-is_below
returns-then-not-is_below c = search rules
