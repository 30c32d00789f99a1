use Rattle.std.proofs.Common.{◌≡◌, length}
use Rattle.tallies.proofs.totals.replies_of.Given as goal

abbrev pub invariant-loop-position : goal.invariant-loop-position
invariant-loop-position l = length l.replies.items ≡ l.position
