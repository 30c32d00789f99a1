-- The records so far are marked.
use Rattle.std.proofs.Common.{◌≡◌, take}
use Rattle.history.proofs.marks.marks_of.Given as goal

abbrev pub invariant-loop-it : goal.invariant-loop-it
invariant-loop-it l = l.marks ≡ take l.it-index l.kept
