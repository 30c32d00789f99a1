use Rattle.std.proofs.Common.{◌++◌, take}
use Rattle.payload_graph.specs.Net.{fulls, window}
use Rattle.price_cert.specs.Best.{IsBest}
use Rattle.price_cert.proofs.windows.best_row.Given as goal

abbrev pub invariant-loop-edge : goal.invariant-loop-edge
invariant-loop-edge l = IsBest l.rows (fulls l.from (window l.graph l.from) ++ take l.edge-index l.differs) l.row
