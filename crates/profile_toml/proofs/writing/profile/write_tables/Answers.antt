use Rattle.std.proofs.Common.{rules}
use Rattle.profile_toml.proofs.SizeLemmas.{mirrors_below}
use Rattle.profile_toml.proofs.writing.profile.write_tables.Goals as goal

pub write_mirrors-requires : goal.write_mirrors-requires
write_mirrors-requires c = mirrors_below c.args.mirrors.now c.requires.formed

pub returns : goal.returns
returns c = search rules
