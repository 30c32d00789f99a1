use Rattle.payload_graph.proofs.SizeLemmas.{windows_hold_doors}
use Rattle.payload_graph.proofs.laws.windows.Goals as goal

pub returns-clause-doors : goal.returns-clause-doors
returns-clause-doors c = windows_hold_doors
