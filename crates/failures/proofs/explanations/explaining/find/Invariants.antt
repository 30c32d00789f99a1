use Rattle.std.proofs.Common.{◌≡◌, drop}
use Rattle.failures.specs.Explanations.{entries_of, string_in}
use Rattle.failures.proofs.explanations.explaining.find.Given as goal

abbrev pub invariant-loop-name : goal.invariant-loop-name
invariant-loop-name l = string_in (entries_of l.table) l.code ≡ string_in (entries_of (drop l.name-index l.table)) l.code
