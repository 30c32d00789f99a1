use Rattle.std.proofs.Common.{Ok, Err, refl}
use Rattle.omaha_commands.proofs.judging.judge_for.Goals as goal

pub returns-in-Ok : goal.returns-in-Ok
returns-in-Ok g c = (Ok c.in-Ok.service, c.in-Ok.ensures, c.judge_by.ensures)

pub returns-in-Err : goal.returns-in-Err
returns-in-Err g c = (Err c.in-Err.failure, c.in-Err.ensures, refl)
