use Rattle.std.proofs.Common.{arith}
use Rattle.std.proofs.lemmas.Grind.{common_steps}
use Rattle.reviews.proofs.pictures.arrows.push_arrows.Goals as goal

pub loop-arrow-preserved : goal.loop-arrow-preserved
loop-arrow-preserved c = grind (arith, common_steps)
