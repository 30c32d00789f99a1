use Rattle.std.proofs.Common.{rules}
use Rattle.profile_toml.proofs.tables.reader.TableReader.check_keys.Goals as goal

pub loop-key-preserved : goal.loop-key-preserved
loop-key-preserved c = search rules
