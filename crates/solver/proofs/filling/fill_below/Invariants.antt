use Rattle.std.proofs.Common.{◌+◌}
use Rattle.payload_graph.specs.Net.{fulls, window}
use Rattle.price_cert.specs.Best.{IsBest}
use Rattle.solver.specs.Settled.{AreSettled}
use Rattle.solver.proofs.filling.fill_below.Given as goal

abbrev pub invariant-loop-from : goal.invariant-loop-from
invariant-loop-from l = record {
  settled : AreSettled l.graph l.rows l.from (l.graph.target + 1);
  best : IsBest l.rows (fulls l.from (window l.graph l.from)) l.best;
}
