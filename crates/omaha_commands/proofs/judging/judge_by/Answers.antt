use Rattle.std.proofs.Common.{Ok, Err, refl}
use Rattle.omaha_commands.proofs.judging.judge_by.Goals as goal

pub returns-in-Ok : goal.returns-in-Ok
returns-in-Ok c = (Ok _, c.in-Ok.ensures, refl)

pub returns : goal.returns
returns c = (Err c.in-Err.failure, c.in-Err.ensures, refl)
