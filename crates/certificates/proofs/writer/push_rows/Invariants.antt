-- The lines so far and those that are left are the whole.
use Rattle.std.proofs.Common.{◌≡◌, ◌++◌, drop}
use Rattle.certificates.specs.Strings.{rows_from}
use Rattle.certificates.proofs.writer.push_rows.Given as goal

abbrev pub invariant-loop-index : goal.invariant-loop-index
invariant-loop-index l =
    l.text.items ++ rows_from l.releases l.index (drop l.index l.rows)
    ≡ l.fn.text.items ++ rows_from l.releases 0 l.rows
