use Rattle.theorems.proofs.EventServedLemmas.{runs_are_interleavings}
use Rattle.theorems.proofs.interleavings.laws.runs_are_interleavings.Goals as goal

pub returns : goal.returns
returns c = runs_are_interleavings c.worker_calls.ensures
