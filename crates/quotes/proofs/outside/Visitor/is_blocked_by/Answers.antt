use Rattle.std.proofs.Common.{rules}
use Rattle.quotes.proofs.outside.Visitor.is_blocked_by.Goals as goal

pub returns-then-release : goal.returns-then-release
returns-then-release c = search rules
