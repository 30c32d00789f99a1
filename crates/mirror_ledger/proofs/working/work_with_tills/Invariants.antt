-- The names of the four ledgers: those of the blanks, with the mirrors' first budgets, and the most that these may come to.
use Rattle.std.proofs.Common.{false}
use Rattle.mirror_ledger.specs.Named.{budget_at, max_at}
use Rattle.mirror_ledger.proofs.working.work_with_tills.Given as goal

abbrev pub ghosts-work_over-A-Ledger : goal.ghosts-work_over-A-Ledger
ghosts-work_over-A-Ledger g a = record { name = a.blanks.first.name; parts = a.blanks.first.parts }

abbrev pub ghosts-work_over-A-BudgetName : goal.ghosts-work_over-A-BudgetName
ghosts-work_over-A-BudgetName g a = record { budget = budget_at a.mirrors.items 0; most = max_at false a.mirrors.items 0; raising = a.blanks.raises.0.name }

abbrev pub ghosts-work_over-B-Ledger : goal.ghosts-work_over-B-Ledger
ghosts-work_over-B-Ledger g a = record { name = a.blanks.second.name; parts = a.blanks.second.parts }

abbrev pub ghosts-work_over-B-BudgetName : goal.ghosts-work_over-B-BudgetName
ghosts-work_over-B-BudgetName g a = record { budget = budget_at a.mirrors.items 1; most = max_at false a.mirrors.items 1; raising = a.blanks.raises.1.name }

abbrev pub ghosts-work_over-C-Ledger : goal.ghosts-work_over-C-Ledger
ghosts-work_over-C-Ledger g a = record { name = a.blanks.third.name; parts = a.blanks.third.parts }

abbrev pub ghosts-work_over-C-BudgetName : goal.ghosts-work_over-C-BudgetName
ghosts-work_over-C-BudgetName g a = record { budget = budget_at a.mirrors.items 2; most = max_at false a.mirrors.items 2; raising = a.blanks.raises.2.name }

abbrev pub ghosts-work_over-D-Ledger : goal.ghosts-work_over-D-Ledger
ghosts-work_over-D-Ledger g a = record { name = a.blanks.fourth.name; parts = a.blanks.fourth.parts }

abbrev pub ghosts-work_over-D-BudgetName : goal.ghosts-work_over-D-BudgetName
ghosts-work_over-D-BudgetName g a = record { budget = budget_at a.mirrors.items 3; most = max_at false a.mirrors.items 3; raising = a.blanks.raises.3.name }
