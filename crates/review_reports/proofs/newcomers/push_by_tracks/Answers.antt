use Rattle.std.proofs.Common.{arith}
use Rattle.std.proofs.lemmas.Grind.{common_steps}
use Rattle.review_reports.proofs.newcomers.push_by_tracks.Goals as goal

pub loop-review-preserved : goal.loop-review-preserved
loop-review-preserved c = grind (arith, common_steps)

pub returns : goal.returns
returns c = grind (arith, common_steps)
