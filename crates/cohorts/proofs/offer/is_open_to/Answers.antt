use Rattle.std.proofs.Common.{rules}
use Rattle.cohorts.proofs.offer.is_open_to.Goals as goal

pub returns-in-Some : goal.returns-in-Some
returns-in-Some c = search rules
