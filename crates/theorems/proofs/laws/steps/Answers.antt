use Rattle.theorems.proofs.LawLemmas.{offers_are_steps}
use Rattle.theorems.proofs.laws.steps.Goals as goal

pub returns : goal.returns
returns c =
    offers_are_steps c.order.ensures.irreflexive c.order.ensures.transitive c.validity.ensures c.cohort_texts.ensures.printed c.cohort_texts.ensures.parsed
