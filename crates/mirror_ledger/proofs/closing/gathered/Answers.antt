use Rattle.std.proofs.Common.{arith}
use Rattle.std.proofs.lemmas.Grind.{common_steps}
use Rattle.mirror_ledger.proofs.closing.gathered.Goals as goal

pub loop-next-init : goal.loop-next-init
loop-next-init g c = grind (arith, common_steps)

pub loop-next-preserved : goal.loop-next-preserved
loop-next-preserved g c = grind (arith, common_steps)
