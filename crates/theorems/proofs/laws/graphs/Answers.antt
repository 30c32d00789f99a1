use Rattle.theorems.proofs.GraphLemmas.{track_graphs_are_graphs}
use Rattle.theorems.proofs.laws.graphs.Goals as goal

pub returns : goal.returns
returns c = track_graphs_are_graphs c.order.ensures.irreflexive c.order.ensures.transitive
