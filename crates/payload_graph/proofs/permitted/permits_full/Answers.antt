use Rattle.std.proofs.Common.{rules}
use Rattle.payload_graph.proofs.permitted.permits_full.Goals as goal

pub returns-then-leads_up : goal.returns-then-leads_up
returns-then-leads_up c = search rules
