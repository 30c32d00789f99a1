use Rattle.std.proofs.Common.{rules}
use Rattle.publisher.proofs.press.Press.prepare.Goals as goal

pub returns-then-number-base : goal.returns-then-number-base
returns-then-number-base g c = search rules
