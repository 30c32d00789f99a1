use Rattle.std.proofs.Common.{◌≡◌, length}
use Rattle.tallies.proofs.tally.cohorts.Given as goal

abbrev pub invariant-loop-cohort : goal.invariant-loop-cohort
invariant-loop-cohort l = length l.cohorts.items ≡ l._cohort
