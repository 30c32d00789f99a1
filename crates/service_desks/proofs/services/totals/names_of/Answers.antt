use Rattle.std.proofs.Common.{arith}
use Rattle.std.proofs.lemmas.Grind.{common_steps}
use Rattle.service_desks.proofs.TotalLemmas.{names_of-last}
use Rattle.service_desks.proofs.services.totals.names_of.Goals as goal

pub loop-mirror-preserved : goal.loop-mirror-preserved
loop-mirror-preserved c = grind (arith, common_steps, names_of-last)
