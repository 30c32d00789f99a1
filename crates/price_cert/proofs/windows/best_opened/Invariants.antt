use Rattle.std.proofs.Common.{List, ◌++◌, take}
use Rattle.payload_graph.specs.declared.edge.Edge.{Edge}
use Rattle.price_cert.specs.Best.{IsBest}
use Rattle.price_cert.proofs.windows.best_opened.Given as goal

abbrev pub invariant-loop-edge : goal.invariant-loop-edge
invariant-loop-edge l =
    (edges : List Edge) → IsBest l.rows edges l.fn.best → IsBest l.rows (edges ++ take l.edge-index l.openings) l.row
