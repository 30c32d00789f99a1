use Rattle.std.proofs.Common.{arith}
use Rattle.std.proofs.lemmas.Grind.{common_steps}
use Rattle.service_desks.proofs.following.adopt_next.Goals as goal

pub returns-clause-adopts : goal.returns-clause-adopts
returns-clause-adopts g c = grind (arith, common_steps)
