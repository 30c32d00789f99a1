use Rattle.std.proofs.Common.{List, ℕ, Ok, sym, subst}
use Rattle.omaha_commands.specs.Graphing.{IsGraph}
use Rattle.omaha_commands.proofs.graphing.graph_on.Goals as goal

pub returns-in-Ok : goal.returns-in-Ok
returns-in-Ok g c = λ input. record {
  found = Ok c.as_slice.result.now;
  is =
      subst (λ (text : List ℕ). IsGraph (g.R.Disk.file_at c.args.rt.now) c.args.asked.now (Ok text)) (sym c.as_slice.ensures.value)
      c.in-Ok.ensures.ok;
  printed = c.print.ensures input;
}
