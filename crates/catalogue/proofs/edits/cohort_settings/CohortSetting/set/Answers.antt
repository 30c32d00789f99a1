use Rattle.std.proofs.Common.{rules}
use Rattle.catalogue.proofs.edits.cohort_settings.CohortSetting.set.Goals as goal

pub returns-in-Open : goal.returns-in-Open
returns-in-Open c = search rules

pub returns-in-Targets : goal.returns-in-Targets
returns-in-Targets c = search rules
