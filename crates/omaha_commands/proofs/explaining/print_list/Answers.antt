use Rattle.std.proofs.Common.{Ok, Err, refl}
use Rattle.omaha_commands.proofs.explaining.print_list.Goals as goal

pub returns-in-Ok : goal.returns-in-Ok
returns-in-Ok g c = λ input. (Ok c.as_bytes.result.now, c.print.ensures input)

pub returns-in-Err : goal.returns-in-Err
returns-in-Err g c = λ input. (Err c.in-Err.failure, (refl, refl))
