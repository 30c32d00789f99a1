use Rattle.payload_graph.proofs.PermittedLemmas.{differs_are_permitted}
use Rattle.payload_graph.proofs.laws.differs.Goals as goal

pub returns : goal.returns
returns c = differs_are_permitted c.order.ensures.irreflexive c.order.ensures.transitive
