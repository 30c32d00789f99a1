use Rattle.std.proofs.Common.{arith}
use Rattle.std.proofs.lemmas.Grind.{common_steps}
use Rattle.update_client.proofs.installing.stage.Goals as goal

pub returns-then-count-left-clause-staged : goal.returns-then-count-left-clause-staged
returns-then-count-left-clause-staged g c = grind (arith, common_steps)

pub reads-preserved : goal.reads-preserved
reads-preserved g c = grind (arith, common_steps)
