use Rattle.theorems.proofs.RowLemmas.{plans_have_rows}
use Rattle.theorems.proofs.WorkerLemmas.{lone_calls_are_for_room}
use Rattle.theorems.proofs.interleavings.laws.lone_calls.Goals as goal

pub returns : goal.returns
returns c =
    lone_calls_are_for_room
    (plans_have_rows c.validity.ensures c.rows.ensures c.graphs.ensures c.plans.ensures c.certified.ensures)
