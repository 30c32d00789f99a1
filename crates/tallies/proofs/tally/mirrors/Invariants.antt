use Rattle.std.proofs.Common.{◌≡◌, length}
use Rattle.tallies.proofs.tally.mirrors.Given as goal

abbrev pub invariant-loop-mirror : goal.invariant-loop-mirror
invariant-loop-mirror l = length l.mirrors.items ≡ l._mirror
