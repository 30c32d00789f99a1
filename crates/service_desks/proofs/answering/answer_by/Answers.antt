use Rattle.std.proofs.Common.{rules}
use Rattle.service_desks.proofs.answering.answer_by.Goals as goal

pub returns-in-Ok-reply-clause-answers : goal.returns-in-Ok-reply-clause-answers
returns-in-Ok-reply-clause-answers g c = search rules
