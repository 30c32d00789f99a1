use Rattle.std.proofs.Common.{arith}
use Rattle.std.proofs.lemmas.Grind.{common_steps}
use Rattle.review_reports.proofs.change_objects.push_cut_off_objects.Goals as goal

pub loop-clients-preserved : goal.loop-clients-preserved
loop-clients-preserved c = grind (arith, common_steps)

pub returns : goal.returns
returns c = grind (arith, common_steps)
