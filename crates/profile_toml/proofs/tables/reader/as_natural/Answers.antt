use Rattle.std.proofs.Common.{rules}
use Rattle.profile_toml.proofs.tables.reader.as_natural.Goals as goal

pub returns-in-Some : goal.returns-in-Some
returns-in-Some c = search rules
