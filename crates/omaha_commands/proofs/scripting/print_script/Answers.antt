use Rattle.std.proofs.Common.{List, ℕ, Ok, Err, refl, sym, subst}
use Rattle.omaha_commands.specs.Scripting.{FindsScript}
use Rattle.omaha_commands.proofs.scripting.print_script.Goals as goal

pub returns-in-Ok : goal.returns-in-Ok
returns-in-Ok g c = λ input. record {
  found = Ok c.as_slice.result.now;
  is =
      subst (λ (text : List ℕ). FindsScript (g.R.Connector.operated c.args.rt.now) c.args.asked.now (Ok text)) (sym c.as_slice.ensures.value) c.in-Ok.ensures.ok;
  printed = c.print.ensures input;
}

pub returns-in-Err : goal.returns-in-Err
returns-in-Err g c = λ input. record { found = Err c.in-Err.failure; is = c.in-Err.ensures.err; printed = (refl, refl) }
