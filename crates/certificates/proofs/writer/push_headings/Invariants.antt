-- The lines so far and those that are left are the whole.
use Rattle.std.proofs.Common.{◌≡◌, ◌++◌, drop}
use Rattle.certificates.specs.Headings.{headings}
use Rattle.certificates.specs.Strings.{headings_string}
use Rattle.certificates.proofs.writer.push_headings.Given as goal

abbrev pub invariant-loop-index : goal.invariant-loop-index
invariant-loop-index l =
    l.text.items ++ headings_string l.app l.cohort l.key l.target (drop l.index headings)
    ≡ l.fn.text.items ++ headings_string l.app l.cohort l.key l.target headings
