use Rattle.std.proofs.Common.{arith}
use Rattle.std.proofs.lemmas.Grind.{common_steps}
use Rattle.publisher.proofs.learnt.joined.Goals as goal

pub returns-then-starts_with-clause-learnt : goal.returns-then-starts_with-clause-learnt
returns-then-starts_with-clause-learnt c = grind (arith, common_steps)

pub returns-then-starts_with-clause-longer : goal.returns-then-starts_with-clause-longer
returns-then-starts_with-clause-longer c = grind (arith, common_steps)

pub returns-then-starts_with-2-clause-learnt : goal.returns-then-starts_with-2-clause-learnt
returns-then-starts_with-2-clause-learnt c = grind (arith, common_steps)

pub returns-then-starts_with-2-clause-longer : goal.returns-then-starts_with-2-clause-longer
returns-then-starts_with-2-clause-longer c = grind (arith, common_steps)
