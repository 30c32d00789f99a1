use Rattle.payload_graph.proofs.FullLemmas.{fulls_are_permitted}
use Rattle.payload_graph.proofs.laws.fulls.Goals as goal

pub returns : goal.returns
returns c = fulls_are_permitted c.order.ensures.irreflexive c.order.ensures.transitive
