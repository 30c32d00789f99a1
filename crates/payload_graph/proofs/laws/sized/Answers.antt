use Rattle.payload_graph.proofs.SizeLemmas.{edges_are_sized}
use Rattle.payload_graph.proofs.laws.sized.Goals as goal

pub returns : goal.returns
returns c = edges_are_sized
