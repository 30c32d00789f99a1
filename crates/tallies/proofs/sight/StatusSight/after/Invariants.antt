use Rattle.std.proofs.Common.{◌≡◌, take}
use Rattle.tallies.specs.Statuses.{written}
use Rattle.tallies.proofs.sight.StatusSight.after.Given as goal

abbrev pub invariant-loop-byte : goal.invariant-loop-byte
invariant-loop-byte l = l.sight ≡ written l.initial.sight (take l.byte-index l.byte-items)
