use Rattle.std.proofs.Common.{◌≤◌}
use Rattle.payload_graph.specs.Net.{fulls}
use Rattle.price_cert.specs.Best.{IsBest, lower}
use Rattle.omaha_commands.proofs.reports.pieces.best_down.Given as goal

abbrev pub invariant-loop-index : goal.invariant-loop-index
invariant-loop-index l = IsBest l.rows (fulls l.index (lower l.graph l.index)) l.best
