use Rattle.std.proofs.Common.{◌≡◌, ◌<◌, ◌≤◌, ℕ, length}
use Rattle.std.specs.Prelude.{slice_index}
use Rattle.mirror_ledger.specs.Named.{budget_at}
use Rattle.omaha_server.proofs.showing.granted_of.Given as goal

abbrev pub invariant-loop-index : goal.invariant-loop-index
invariant-loop-index g l =
    (g.B.Budgets.present l.budgets ≡ g.B.Budgets.present l.fn.budgets)
    × (g.B.Budgets.rises l.budgets ≡ g.B.Budgets.rises l.fn.budgets)
    × (length l.granted.items ≡ l.index)
    × ((k : ℕ) → k < length l.granted.items → slice_index l.granted.items k ≤ budget_at (g.B.Budgets.present l.fn.budgets) k)
