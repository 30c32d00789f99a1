use Rattle.std.proofs.Common.{rules}
use Rattle.profile_toml.proofs.writing.release.write_diff.Goals as goal

pub returns : goal.returns
returns c = search rules
