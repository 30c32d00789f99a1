-- The rows so far are the entries of the records so far.
use Rattle.std.proofs.Common.{◌≡◌, length, take}
use Rattle.history.specs.Tables.{entries_from}
use Rattle.history.proofs.reading.read_rows.Given as goal

abbrev pub invariant-loop-at : goal.invariant-loop-at
invariant-loop-at l = (take l.at l.rows ≡ entries_from l.first l.kept.items) × (length l.kept.items ≡ l.at)
