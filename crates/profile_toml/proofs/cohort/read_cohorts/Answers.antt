use Rattle.std.proofs.Common.{arith}
use Rattle.std.proofs.lemmas.Grind.{common_steps}
use Rattle.profile_toml.proofs.cohort.read_cohorts.Goals as goal

pub returns-in_err-table : goal.returns-in_err-table
returns-in_err-table c = grind (arith, common_steps)

pub returns-in_err-cohort : goal.returns-in_err-cohort
returns-in_err-cohort c = grind (arith, common_steps)

pub loop-index-preserved : goal.loop-index-preserved
loop-index-preserved c = grind (arith, common_steps)

pub returns : goal.returns
returns c = grind (arith, common_steps)
