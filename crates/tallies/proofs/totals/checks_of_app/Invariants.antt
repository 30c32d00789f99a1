use Rattle.std.proofs.Common.{◌≡◌, length}
use Rattle.tallies.proofs.totals.checks_of_app.Given as goal

abbrev pub invariant-loop-cohort : goal.invariant-loop-cohort
invariant-loop-cohort l = length l.checks.items ≡ l.cohort
