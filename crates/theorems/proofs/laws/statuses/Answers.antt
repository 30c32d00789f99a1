use Rattle.theorems.proofs.LawLemmas.{statuses_say}
use Rattle.theorems.proofs.laws.statuses.Goals as goal

pub returns : goal.returns
returns c = statuses_say c.order.ensures.irreflexive c.order.ensures.transitive c.validity.ensures
