use Rattle.std.proofs.Common.{arith}
use Rattle.std.proofs.lemmas.Grind.{common_steps}
use Rattle.profile_toml.proofs.writing.app.write_apps.Goals as goal

pub write_app-requires : goal.write_app-requires
write_app-requires c = grind (arith, common_steps)

pub loop-app-preserved : goal.loop-app-preserved
loop-app-preserved c = grind (arith, common_steps)

pub returns : goal.returns
returns c = grind (arith, common_steps)
