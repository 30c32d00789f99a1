-- The rows so far and what is left are read as the whole is.
use Rattle.std.proofs.Common.{◌≡◌, ◌+◌, drop}
use Rattle.certificates.specs.Reading.{read_rows, with_rows}
use Rattle.certificates.proofs.reader.read_rows.Given as goal

abbrev pub invariant-loop-index : goal.invariant-loop-index
invariant-loop-index l =
    with_rows l.rows (read_rows l.releases (drop l.index l.releases) (l.index + 8) l.rest)
    ≡ read_rows l.releases l.releases 8 l.fn.text
