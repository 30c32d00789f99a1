use Rattle.std.proofs.Common.{arith}
use Rattle.std.proofs.lemmas.Grind.{common_steps}
use Rattle.profile_toml.proofs.writing.release.write_releases.Goals as goal

pub loop-release-preserved : goal.loop-release-preserved
loop-release-preserved c = grind (arith, common_steps)
