use Rattle.payload_graph.specs.Net.{fulls}
use Rattle.price_cert.specs.Best.{IsBest, lower}
use Rattle.solver.specs.Settled.{AreSettled}
use Rattle.solver.proofs.filling.fill_above.Given as goal

abbrev pub invariant-loop-from : goal.invariant-loop-from
invariant-loop-from l = record {
  settled : AreSettled l.graph l.rows 0 l.from;
  best : IsBest l.rows (fulls l.from (lower l.graph l.from)) l.best;
}
