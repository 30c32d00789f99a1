use Rattle.std.proofs.Common.{◌≡◌, length}
use Rattle.tallies.proofs.totals.bytes_of.Given as goal

abbrev pub invariant-loop-mirror : goal.invariant-loop-mirror
invariant-loop-mirror l = length l.bytes.items ≡ l.mirror
