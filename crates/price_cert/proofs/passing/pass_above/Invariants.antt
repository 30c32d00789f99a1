use Rattle.std.proofs.Common.{◌+◌}
use Rattle.payload_graph.specs.Net.{fulls}
use Rattle.price_cert.specs.Best.{AreBest, IsBest, lower}
use Rattle.price_cert.proofs.passing.pass_above.Given as goal

abbrev pub invariant-loop-from : goal.invariant-loop-from
invariant-loop-from l = record {
  passed : AreBest l.graph l.rows (l.graph.target + 1) l.from;
  best : IsBest l.rows (fulls l.from (lower l.graph l.from)) l.best;
}
