use Rattle.std.proofs.Common.{rules}
use Rattle.profile_toml.proofs.script_lines.word.push_word.Goals as goal

pub returns-in-Some : goal.returns-in-Some
returns-in-Some c = search rules
