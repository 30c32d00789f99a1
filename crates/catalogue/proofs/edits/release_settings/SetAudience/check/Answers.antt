use Rattle.std.proofs.Common.{rules}
use Rattle.catalogue.proofs.edits.release_settings.SetAudience.check.Goals as goal

pub returns : goal.returns
returns c = search rules
