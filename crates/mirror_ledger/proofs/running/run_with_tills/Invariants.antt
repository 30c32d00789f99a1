-- The names of the four ledgers: those of the blanks, with the mirrors' first budgets, and the most that these may come to.
use Rattle.mirror_ledger.specs.Named.{budget_at, max_at}
use Rattle.mirror_ledger.proofs.running.run_with_tills.Given as goal

abbrev pub ghosts-run_over-A-Ledger : goal.ghosts-run_over-A-Ledger
ghosts-run_over-A-Ledger g a = record { name = a.blanks.first.name; parts = a.blanks.first.parts }

abbrev pub ghosts-run_over-A-BudgetName : goal.ghosts-run_over-A-BudgetName
ghosts-run_over-A-BudgetName g a = record { budget = budget_at a.mirrors.items 0; most = max_at (g.O.BudgetJob.raises a.own.now) a.mirrors.items 0; raising = a.blanks.raises.0.name }

abbrev pub ghosts-run_over-B-Ledger : goal.ghosts-run_over-B-Ledger
ghosts-run_over-B-Ledger g a = record { name = a.blanks.second.name; parts = a.blanks.second.parts }

abbrev pub ghosts-run_over-B-BudgetName : goal.ghosts-run_over-B-BudgetName
ghosts-run_over-B-BudgetName g a = record { budget = budget_at a.mirrors.items 1; most = max_at (g.O.BudgetJob.raises a.own.now) a.mirrors.items 1; raising = a.blanks.raises.1.name }

abbrev pub ghosts-run_over-C-Ledger : goal.ghosts-run_over-C-Ledger
ghosts-run_over-C-Ledger g a = record { name = a.blanks.third.name; parts = a.blanks.third.parts }

abbrev pub ghosts-run_over-C-BudgetName : goal.ghosts-run_over-C-BudgetName
ghosts-run_over-C-BudgetName g a = record { budget = budget_at a.mirrors.items 2; most = max_at (g.O.BudgetJob.raises a.own.now) a.mirrors.items 2; raising = a.blanks.raises.2.name }

abbrev pub ghosts-run_over-D-Ledger : goal.ghosts-run_over-D-Ledger
ghosts-run_over-D-Ledger g a = record { name = a.blanks.fourth.name; parts = a.blanks.fourth.parts }

abbrev pub ghosts-run_over-D-BudgetName : goal.ghosts-run_over-D-BudgetName
ghosts-run_over-D-BudgetName g a = record { budget = budget_at a.mirrors.items 3; most = max_at (g.O.BudgetJob.raises a.own.now) a.mirrors.items 3; raising = a.blanks.raises.3.name }
