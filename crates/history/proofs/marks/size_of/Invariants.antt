-- The bytes of the records so far.
use Rattle.std.proofs.Common.{◌≡◌, take}
use Rattle.kept_records.specs.Keeping.{bytes_in}
use Rattle.history.proofs.marks.size_of.Given as goal

abbrev pub invariant-loop-it : goal.invariant-loop-it
invariant-loop-it l = l.size ≡ bytes_in (take l.it-index l.kept)
