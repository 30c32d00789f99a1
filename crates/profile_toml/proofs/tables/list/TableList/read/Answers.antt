use Rattle.std.proofs.Common.{arith}
use Rattle.std.proofs.lemmas.Grind.{common_steps}
use Rattle.profile_toml.proofs.tables.list.TableList.read.Goals as goal

pub returns-in_err-table : goal.returns-in_err-table
returns-in_err-table g c = grind (arith, common_steps)

pub returns-in_err-record : goal.returns-in_err-record
returns-in_err-record g c = grind (arith, common_steps)

pub loop-index-preserved : goal.loop-index-preserved
loop-index-preserved g c = grind (arith, common_steps)

pub returns : goal.returns
returns g c = grind (arith, common_steps)
