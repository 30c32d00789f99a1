use Rattle.std.proofs.Common.{Ok, Err, refl}
use Rattle.streams.specs.Streams.{Known}
use Rattle.omaha_commands.proofs.judging.print_judgement.Goals as goal

pub returns-in-Ok : goal.returns-in-Ok
returns-in-Ok g c = λ (input : Known). (Ok c.in-Ok.number, c.in-Ok.ensures, c.print_valid.ensures input)

pub returns-in-Err : goal.returns-in-Err
returns-in-Err g c = λ (input : Known). (Err c.in-Err.failure, c.in-Err.ensures, (refl, refl))
