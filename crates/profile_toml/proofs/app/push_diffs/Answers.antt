use Rattle.std.proofs.Common.{arith}
use Rattle.std.proofs.lemmas.Grind.{common_steps}
use Rattle.profile_toml.proofs.app.push_diffs.Goals as goal

pub loop-diff-preserved : goal.loop-diff-preserved
loop-diff-preserved c = grind (arith, common_steps)
