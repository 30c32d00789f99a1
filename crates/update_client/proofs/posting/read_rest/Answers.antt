use Rattle.std.proofs.Common.{arith}
use Rattle.std.proofs.lemmas.Grind.{common_steps}
use Rattle.update_client.proofs.posting.read_rest.Goals as goal

pub loop-source-preserved : goal.loop-source-preserved
loop-source-preserved g c = grind (arith, common_steps)

pub loop-source-smaller : goal.loop-source-smaller
loop-source-smaller g c = grind (arith, common_steps)

pub returns-then-branch-eq0-clause-rest : goal.returns-then-branch-eq0-clause-rest
returns-then-branch-eq0-clause-rest g c = grind (arith, common_steps)
