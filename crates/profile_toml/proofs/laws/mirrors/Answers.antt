use Rattle.profile_toml.proofs.MirrorLemmas.{AreMirrors-profile_of_bytes}
use Rattle.profile_toml.proofs.laws.mirrors.Goals as goal

pub returns : goal.returns
returns c = AreMirrors-profile_of_bytes
