use Rattle.payload_graph.proofs.IncomingLemmas.{edges_from_are_of_graph, edges_into_are_edges_from}
use Rattle.payload_graph.proofs.laws.incoming.Goals as goal

pub returns-clause-from : goal.returns-clause-from
returns-clause-from c = edges_from_are_of_graph

pub returns-clause-into : goal.returns-clause-into
returns-clause-into c = edges_into_are_edges_from
