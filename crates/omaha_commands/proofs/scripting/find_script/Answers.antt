use Rattle.std.proofs.Common.{ℕ, List, Ok, Err, refl, subst}
use Rattle.std.proofs.lemmas.Result.{IfErr-weaker, IfOk-weaker}
use Rattle.omaha_commands.specs.Scripting.{IsScript}
use Rattle.omaha_commands.proofs.scripting.find_script.Goals as goal

pub returns-in-Ok-clause-ok : goal.returns-in-Ok-clause-ok
returns-in-Ok-clause-ok g c =
    IfOk-weaker c.script_of.result _ _
    (λ text is. (Ok c.in-Ok.base, c.in-Ok.ensures.ok, subst (λ (words : List (List ℕ)). IsScript c.in-Ok.base words (Ok text.items)) c.as_slice.ensures is))
    c.script_of.ensures.ok

pub returns-in-Ok-clause-err : goal.returns-in-Ok-clause-err
returns-in-Ok-clause-err g c =
    IfErr-weaker c.script_of.result _ _
    (λ failure is. (Ok c.in-Ok.base, c.in-Ok.ensures.ok, subst (λ (words : List (List ℕ)). IsScript c.in-Ok.base words (Err failure)) c.as_slice.ensures is))
    c.script_of.ensures.err

pub returns-in-Err-clause-err : goal.returns-in-Err-clause-err
returns-in-Err-clause-err g c = (Err c.in-Err.failure, c.in-Err.ensures.err, refl)
