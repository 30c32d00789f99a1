-- The names of the four ledgers: those of the blanks, with the mirrors' budgets, which are never raised.
use Rattle.mirror_ledger.specs.Named.{budget_at}
use Rattle.catalogue_rows.proofs.closing.are_closed.Given as goal

abbrev pub ghosts-ask_over-A-Ledger : goal.ghosts-ask_over-A-Ledger
ghosts-ask_over-A-Ledger g a = record { name = a.blanks.first.name; parts = a.blanks.first.parts }

abbrev pub ghosts-ask_over-A-BudgetName : goal.ghosts-ask_over-A-BudgetName
ghosts-ask_over-A-BudgetName g a = record { budget = budget_at a.mirrors.items 0; most = budget_at a.mirrors.items 0; raising = a.blanks.raises.0.name }

abbrev pub ghosts-ask_over-B-Ledger : goal.ghosts-ask_over-B-Ledger
ghosts-ask_over-B-Ledger g a = record { name = a.blanks.second.name; parts = a.blanks.second.parts }

abbrev pub ghosts-ask_over-B-BudgetName : goal.ghosts-ask_over-B-BudgetName
ghosts-ask_over-B-BudgetName g a = record { budget = budget_at a.mirrors.items 1; most = budget_at a.mirrors.items 1; raising = a.blanks.raises.1.name }

abbrev pub ghosts-ask_over-C-Ledger : goal.ghosts-ask_over-C-Ledger
ghosts-ask_over-C-Ledger g a = record { name = a.blanks.third.name; parts = a.blanks.third.parts }

abbrev pub ghosts-ask_over-C-BudgetName : goal.ghosts-ask_over-C-BudgetName
ghosts-ask_over-C-BudgetName g a = record { budget = budget_at a.mirrors.items 2; most = budget_at a.mirrors.items 2; raising = a.blanks.raises.2.name }

abbrev pub ghosts-ask_over-D-Ledger : goal.ghosts-ask_over-D-Ledger
ghosts-ask_over-D-Ledger g a = record { name = a.blanks.fourth.name; parts = a.blanks.fourth.parts }

abbrev pub ghosts-ask_over-D-BudgetName : goal.ghosts-ask_over-D-BudgetName
ghosts-ask_over-D-BudgetName g a = record { budget = budget_at a.mirrors.items 3; most = budget_at a.mirrors.items 3; raising = a.blanks.raises.3.name }
