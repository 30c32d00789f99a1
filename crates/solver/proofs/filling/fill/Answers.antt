use Rattle.solver.proofs.SettledLemmas.{IsBestTable-settled}
use Rattle.solver.proofs.filling.fill.Goals as goal

pub returns : goal.returns
returns c = c.best.ensures c.args.graph.now c.fill_above.new.rows (IsBestTable-settled c.args.graph.now c.fill_above.new.rows c.fill_above.ensures)
