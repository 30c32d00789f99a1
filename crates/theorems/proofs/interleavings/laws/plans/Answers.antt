use Rattle.theorems.proofs.PlanLemmas.{plans_are_by_prices}
use Rattle.theorems.proofs.interleavings.laws.plans.Goals as goal

pub returns : goal.returns
returns c = plans_are_by_prices c.validity.ensures c.rows.ensures c.graphs.ensures c.tracks.ensures.tracks
    c.plans.ensures
