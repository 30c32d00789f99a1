use Rattle.std.proofs.Common.{arith}
use Rattle.std.proofs.lemmas.Grind.{common_steps}
use Rattle.review_reports.proofs.comparing.push_track.Goals as goal

pub loop-from-preserved : goal.loop-from-preserved
loop-from-preserved c = grind (arith, common_steps)

pub returns : goal.returns
returns c = grind (arith, common_steps)
