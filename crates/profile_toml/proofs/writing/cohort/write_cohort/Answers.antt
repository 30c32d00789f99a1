use Rattle.std.proofs.Common.{rules}
use Rattle.profile_toml.proofs.writing.cohort.write_cohort.Goals as goal

pub returns : goal.returns
returns c = search rules
