use Rattle.std.proofs.Common.{ap, ◌∙◌}
use Rattle.editions.specs.Editions.{content_of}
use Rattle.service_desks.proofs.BuiltinLemmas.{content_of-builtin_batch}
use Rattle.service_desks.proofs.services.service.builtin_service.Goals as goal

pub returns-clause-content : goal.returns-clause-content
returns-clause-content c = ap content_of c.in_ok-edition.ensures ∙ content_of-builtin_batch
