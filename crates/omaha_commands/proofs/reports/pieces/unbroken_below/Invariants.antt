use Rattle.payload_graph.specs.Net.{fulls, window}
use Rattle.price_cert.specs.Best.{IsBest}
use Rattle.omaha_commands.specs.Pieces.{AreUnbroken}
use Rattle.omaha_commands.proofs.reports.pieces.unbroken_below.Given as goal

abbrev pub invariant-loop-from : goal.invariant-loop-from
invariant-loop-from l = record {
  unbroken : AreUnbroken l.graph l.rows l.from l.fn.high;
  best : IsBest l.rows (fulls l.from (window l.graph l.from)) l.best;
}
