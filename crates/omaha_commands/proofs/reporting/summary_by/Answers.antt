use Rattle.std.proofs.Common.{ℕ, Err, refl, subst}
use Rattle.omaha_commands.specs.Applying.{Applies}
use Rattle.omaha_commands.proofs.reporting.summary_by.Goals as goal

pub returns-in-Err-clause-err : goal.returns-in-Err-clause-err
returns-in-Err-clause-err c =
    let P : ℕ → Type 0 = λ number. Applies c.args.edition.now number c.args.script (Err c.in-Err.failure) in
    (Err c.in-Err.failure, subst P c.number.ensures.count c.in-Err.ensures, refl)
