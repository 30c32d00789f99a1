use Rattle.std.proofs.Common.{rules}
use Rattle.cohorts.proofs.track.find_serving.Goals as goal

pub returns-clause-cohort : goal.returns-clause-cohort
returns-clause-cohort c = search rules
