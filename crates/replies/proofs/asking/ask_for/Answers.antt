use Rattle.std.proofs.Common.{rules}
use Rattle.replies.proofs.asking.ask_for.Goals as goal

pub returns-in-Some-clause-asks : goal.returns-in-Some-clause-asks
returns-in-Some-clause-asks g c = search rules
