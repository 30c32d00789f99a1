-- Budgets may still be raised.
use Rattle.std.proofs.Common.{◌≡◌, true}
use Rattle.catalogue_rows.proofs.raising.RaisingBudgetJob.work.Given as goal

abbrev pub invariant-loop-budget : goal.invariant-loop-budget
invariant-loop-budget g l = g.B.Budgets.rises l.budgets ≡ true
