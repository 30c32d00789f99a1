use Rattle.std.proofs.Common.{arith}
use Rattle.std.proofs.lemmas.Grind.{common_steps}
use Rattle.update_client.proofs.reading.read_head.Goals as goal

pub reads-preserved : goal.reads-preserved
reads-preserved g c = grind (arith, common_steps)

pub reads-smaller : goal.reads-smaller
reads-smaller g c = grind (arith, common_steps)

pub returns-then-branch-eq0-clause-read : goal.returns-then-branch-eq0-clause-read
returns-then-branch-eq0-clause-read g c = grind (arith, common_steps)
