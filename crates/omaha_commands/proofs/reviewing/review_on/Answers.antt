use Rattle.std.proofs.Common.{Ok, Err, refl}
use Rattle.omaha_commands.proofs.reviewing.review_on.Goals as goal

pub returns-in-Ok : goal.returns-in-Ok
returns-in-Ok g c = λ input. record { found = Ok c.in-Ok.findings; is = c.in-Ok.ensures; printed = c.print_review.ensures input }

pub returns-in-Err : goal.returns-in-Err
returns-in-Err g c = λ input. record { found = Err c.in-Err.failure; is = c.in-Err.ensures; printed = (refl, refl) }
