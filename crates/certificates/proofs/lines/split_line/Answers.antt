use Rattle.std.proofs.Common.{rules}
use Rattle.certificates.proofs.lines.split_line.Goals as goal

pub returns-in-None : goal.returns-in-None
returns-in-None c = search rules
