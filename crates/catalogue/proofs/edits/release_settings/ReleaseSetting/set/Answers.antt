use Rattle.std.proofs.Common.{rules}
use Rattle.catalogue.proofs.edits.release_settings.ReleaseSetting.set.Goals as goal

pub returns-in-Withdrawn : goal.returns-in-Withdrawn
returns-in-Withdrawn c = search rules
