use Rattle.std.proofs.Common.{inl, inr, refl, rules}
use Rattle.service_desks.proofs.operator.OperatorDesk.answer.Goals as goal

pub returns-then-starts_with-clause-steps : goal.returns-then-starts_with-clause-steps
returns-then-starts_with-clause-steps g c = (refl, refl, refl, refl, inr (inr (inl (search rules, c.raise.ensures.is))))
