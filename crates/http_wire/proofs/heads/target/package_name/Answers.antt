use Rattle.std.proofs.Common.{arith}
use Rattle.std.proofs.lemmas.Grind.{common_steps}
use Rattle.http_wire.specs.Targets.{package_in}
use Rattle.http_wire.proofs.heads.target.package_name.Goals as goal

pub returns-then-eq : goal.returns-then-eq
unfolding package_in
returns-then-eq c = grind (arith, common_steps)
