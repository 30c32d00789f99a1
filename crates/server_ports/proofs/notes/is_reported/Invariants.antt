-- None of the reports so far is this one.
use Rattle.std.proofs.Common.{take}
use Rattle.server_ports.specs.Notes.{IsUnreported}
use Rattle.server_ports.proofs.notes.is_reported.Given as goal

abbrev pub invariant-loop-each : goal.invariant-loop-each
invariant-loop-each l = IsUnreported (take l.each-index l.reported) l.report
