use Rattle.std.proofs.Common.{rules}
use Rattle.profile_toml.proofs.document.read_schema.Goals as goal

pub returns-in-Ok : goal.returns-in-Ok
returns-in-Ok c = search rules
