use Rattle.std.proofs.Common.{arith}
use Rattle.std.proofs.lemmas.Grind.{common_steps}
use Rattle.service_desks.proofs.following.adopt_script.Goals as goal

pub returns-in-Err-show_or_owe-clause-due : goal.returns-in-Err-show_or_owe-clause-due
returns-in-Err-show_or_owe-clause-due g c = grind (arith, common_steps)

pub returns-in-Err-clause-adopts : goal.returns-in-Err-clause-adopts
returns-in-Err-clause-adopts g c = grind (arith, common_steps)
