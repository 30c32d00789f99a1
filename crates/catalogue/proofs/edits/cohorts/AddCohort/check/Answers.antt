use Rattle.std.proofs.Common.{rules}
use Rattle.catalogue.proofs.edits.cohorts.AddCohort.check.Goals as goal

pub returns-then-has_cohort : goal.returns-then-has_cohort
returns-then-has_cohort c = search rules
