use Rattle.std.proofs.Common.{◌≤◌}
use Rattle.payload_graph.specs.Net.{fulls, window}
use Rattle.price_cert.specs.Best.{IsBest}
use Rattle.omaha_commands.proofs.reports.pieces.best_of_window.Given as goal

abbrev pub invariant-loop-index : goal.invariant-loop-index
invariant-loop-index l = record {
  low : l.fn.from ≤ l.index;
  best : IsBest l.rows (fulls l.index (window l.graph l.index)) l.best;
}
