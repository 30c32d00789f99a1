use Rattle.std.proofs.Common.{rules}
use Rattle.certificates.proofs.heading.flaw_of.Goals as goal

pub returns-then-eq : goal.returns-then-eq
returns-then-eq c = search rules
