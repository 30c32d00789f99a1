use Rattle.std.proofs.Common.{Ok, Err, refl}
use Rattle.std.proofs.lemmas.Result.{IfErr-weaker, IfOk-weaker}
use Rattle.omaha_commands.proofs.reporting.summary_after.Goals as goal

pub returns-in-Ok-clause-ok : goal.returns-in-Ok-clause-ok
returns-in-Ok-clause-ok g c =
    IfOk-weaker c.summary_by.result _ _ (λ text is. (Ok c.in-Ok.script, c.in-Ok.ensures.ok, is)) c.summary_by.ensures.ok

pub returns-in-Ok-clause-err : goal.returns-in-Ok-clause-err
returns-in-Ok-clause-err g c =
    IfErr-weaker c.summary_by.result _ _ (λ failure is. (Ok c.in-Ok.script, c.in-Ok.ensures.ok, is)) c.summary_by.ensures.err

pub returns-in-Err-clause-err : goal.returns-in-Err-clause-err
returns-in-Err-clause-err g c = (Err c.in-Err.failure, c.in-Err.ensures.err, refl)
