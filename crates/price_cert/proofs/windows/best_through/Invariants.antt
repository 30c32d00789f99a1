use Rattle.std.proofs.Common.{take}
use Rattle.payload_graph.specs.Net.{fulls}
use Rattle.price_cert.specs.Best.{IsBest, nearest_row}
use Rattle.price_cert.proofs.windows.best_through.Given as goal

abbrev pub invariant-loop-door : goal.invariant-loop-door
invariant-loop-door l = IsBest l.rows (fulls l.from (take l.door-index l.doors)) (nearest_row l.nearest)
