use Rattle.std.proofs.Common.{rules}
use Rattle.certificates.proofs.entry.row_of.Goals as goal

pub returns-then-eq : goal.returns-then-eq
returns-then-eq c = search rules
