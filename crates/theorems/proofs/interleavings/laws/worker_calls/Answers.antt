use Rattle.theorems.proofs.RowLemmas.{plans_have_rows}
use Rattle.theorems.proofs.WorkerLemmas.{worker_calls_are_events}
use Rattle.theorems.proofs.interleavings.laws.worker_calls.Goals as goal

pub returns : goal.returns
returns c =
    worker_calls_are_events
    (plans_have_rows c.validity.ensures c.rows.ensures c.graphs.ensures c.plans.ensures c.certified.ensures)
