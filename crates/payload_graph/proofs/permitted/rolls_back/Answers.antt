use Rattle.std.proofs.Common.{rules}
use Rattle.payload_graph.proofs.permitted.rolls_back.Goals as goal

pub returns-then-cohort : goal.returns-then-cohort
returns-then-cohort c = search rules
