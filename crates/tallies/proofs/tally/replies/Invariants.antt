use Rattle.std.proofs.Common.{◌≡◌, length}
use Rattle.tallies.proofs.tally.replies.Given as goal

abbrev pub invariant-loop-position : goal.invariant-loop-position
invariant-loop-position l = length l.replies.items ≡ l._position
