use Rattle.std.proofs.Common.{◌≡◌, length, map, take}
use Rattle.tallies.proofs.totals.checks_of.Given as goal

abbrev pub invariant-loop-app : goal.invariant-loop-app
invariant-loop-app l = map length l.checks.items ≡ take l.app l.cohorts
