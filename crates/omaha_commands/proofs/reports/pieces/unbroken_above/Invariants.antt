use Rattle.std.proofs.Common.{◌≤◌}
use Rattle.payload_graph.specs.Net.{fulls}
use Rattle.price_cert.specs.Best.{IsBest, lower}
use Rattle.omaha_commands.specs.Pieces.{AreUnbroken}
use Rattle.omaha_commands.proofs.reports.pieces.unbroken_above.Given as goal

abbrev pub invariant-loop-from : goal.invariant-loop-from
invariant-loop-from l = record {
  within : l.start ≤ l.from;
  unbroken : AreUnbroken l.graph l.rows l.start l.from;
  best : IsBest l.rows (fulls l.from (lower l.graph l.from)) l.best;
}
