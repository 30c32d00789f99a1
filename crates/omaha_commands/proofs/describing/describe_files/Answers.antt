use Rattle.std.proofs.Common.{◌∙◌, List, ℕ, Ok, Err, refl, sym, subst}
use Rattle.omaha_commands.specs.Describing.{IsFound}
use Rattle.omaha_commands.proofs.describing.describe_files.Goals as goal

pub returns-in-Ok : goal.returns-in-Ok
returns-in-Ok g c = λ input. record {
  found = Ok c.as_bytes.result.now;
  is =
      subst (λ (text : List ℕ). IsFound (g.R.Folders.storage c.args.rt.now) c.args.paths.now (Ok text))
      (sym (c.as_bytes.ensures.value ∙ c.as_str.ensures.value)) c.in-Ok.ensures.ok;
  printed = c.print.ensures input;
}

pub returns-in-Err : goal.returns-in-Err
returns-in-Err g c = λ input. record { found = Err c.in-Err.failure; is = c.in-Err.ensures.err; printed = (refl, refl) }
