-- What is left is read as the whole is.
use Rattle.std.proofs.Common.{◌≡◌, ◌+◌, drop}
use Rattle.certificates.specs.Headings.{headings}
use Rattle.certificates.specs.Reading.{read_headings}
use Rattle.certificates.proofs.reader.read_headings.Given as goal

abbrev pub invariant-loop-index : goal.invariant-loop-index
invariant-loop-index l =
    read_headings l.app l.cohort l.key l.target (drop l.index headings) (l.index + 1) l.rest
    ≡ read_headings l.app l.cohort l.key l.target headings 1 l.fn.text
