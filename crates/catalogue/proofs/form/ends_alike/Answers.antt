use Rattle.std.proofs.Common.{arith}
use Rattle.std.proofs.lemmas.Grind.{common_steps}
use Rattle.catalogue.proofs.form.ends_alike.Goals as goal

pub returns-then-left-right : goal.returns-then-left-right
returns-then-left-right c = grind (arith, common_steps)

pub returns-in-Some : goal.returns-in-Some
returns-in-Some c = grind (arith, common_steps)
