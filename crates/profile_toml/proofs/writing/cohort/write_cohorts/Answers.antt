use Rattle.std.proofs.Common.{arith}
use Rattle.std.proofs.lemmas.Grind.{common_steps}
use Rattle.profile_toml.proofs.writing.cohort.write_cohorts.Goals as goal

pub loop-cohort-preserved : goal.loop-cohort-preserved
loop-cohort-preserved c = grind (arith, common_steps)
