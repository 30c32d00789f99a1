use Rattle.std.proofs.Common.{arith}
use Rattle.std.proofs.lemmas.Grind.{common_steps}
use Rattle.review_reports.proofs.change_lines.push_all_cut_off.Goals as goal

pub loop-clients-preserved : goal.loop-clients-preserved
loop-clients-preserved c = grind (arith, common_steps)

pub returns : goal.returns
returns c = grind (arith, common_steps)
