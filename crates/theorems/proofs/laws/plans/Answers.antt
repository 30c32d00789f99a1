use Rattle.theorems.proofs.UniqueLemmas.{plans_are_one}
use Rattle.theorems.proofs.laws.plans.Goals as goal

pub returns : goal.returns
returns c = plans_are_one c.order.ensures.irreflexive c.order.ensures.transitive c.validity.ensures
