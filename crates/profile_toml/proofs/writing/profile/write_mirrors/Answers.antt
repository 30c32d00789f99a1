use Rattle.std.proofs.Common.{arith}
use Rattle.std.proofs.lemmas.Grind.{common_steps}
use Rattle.profile_toml.proofs.writing.profile.write_mirrors.Goals as goal

pub loop-mirror-preserved : goal.loop-mirror-preserved
loop-mirror-preserved c = grind (arith, common_steps)
