use Rattle.payload_graph.proofs.NearerLemmas.{edges_lead_nearer, fulls_lead_nearer}
use Rattle.payload_graph.proofs.laws.nearer.Goals as goal

pub returns-clause-fulls : goal.returns-clause-fulls
returns-clause-fulls c = fulls_lead_nearer

pub returns-clause-edges : goal.returns-clause-edges
returns-clause-edges c = edges_lead_nearer
