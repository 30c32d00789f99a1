use Rattle.std.proofs.Common.{length}
use Rattle.omaha_commands.specs.Pieces.{AreUnbroken}
use Rattle.omaha_commands.proofs.reports.checking.first_wrong.Given as goal

abbrev pub invariant-loop-from : goal.invariant-loop-from
invariant-loop-from l = AreUnbroken l.graph l.rows l.from (length l.rows)
