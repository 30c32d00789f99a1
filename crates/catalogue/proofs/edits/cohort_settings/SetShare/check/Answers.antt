use Rattle.std.proofs.Common.{rules}
use Rattle.catalogue.proofs.edits.cohort_settings.SetShare.check.Goals as goal

pub returns : goal.returns
returns c = search rules
