use Rattle.std.proofs.Common.{rules}
use Rattle.cohorts.proofs.offer.is_offered.Goals as goal

pub returns-else-not-release : goal.returns-else-not-release
returns-else-not-release c = search rules

pub returns-then-is_open_to : goal.returns-then-is_open_to
returns-then-is_open_to c = search rules

pub returns-else-is_open_to : goal.returns-else-is_open_to
returns-else-is_open_to c = search rules
