use Rattle.profile_toml.proofs.FaultLemmas.{IsOneLine-profile, IsOneLine-script}
use Rattle.profile_toml.proofs.laws.faults.Goals as goal

pub returns-clause-profiles : goal.returns-clause-profiles
returns-clause-profiles c = IsOneLine-profile

pub returns-clause-scripts : goal.returns-clause-scripts
returns-clause-scripts c = IsOneLine-script
