use Rattle.payload_graph.specs.Net.{fulls, window}
use Rattle.price_cert.specs.Best.{AreBest, IsBest}
use Rattle.price_cert.proofs.passing.pass_below.Given as goal

abbrev pub invariant-loop-from : goal.invariant-loop-from
invariant-loop-from l = record {
  passed : AreBest l.graph l.rows l.from l.graph.target;
  best : IsBest l.rows (fulls l.from (window l.graph l.from)) l.best;
}
