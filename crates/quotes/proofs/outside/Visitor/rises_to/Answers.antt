use Rattle.std.proofs.Common.{rules}
use Rattle.quotes.proofs.outside.Visitor.rises_to.Goals as goal

pub returns-then-is_below : goal.returns-then-is_below
returns-then-is_below c = search rules
