use Rattle.std.proofs.Common.{arith}
use Rattle.std.proofs.lemmas.Grind.{common_steps}
use Rattle.profile_toml.proofs.app.edits_of.Goals as goal

pub loop-app-preserved : goal.loop-app-preserved
loop-app-preserved c = grind (arith, common_steps)
