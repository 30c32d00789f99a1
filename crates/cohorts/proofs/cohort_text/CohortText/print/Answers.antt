use Rattle.std.proofs.Common.{rules}
use Rattle.cohorts.proofs.cohort_text.CohortText.print.Goals as goal

pub returns : goal.returns
returns c = search rules
