-- While no mirror has granted the bytes, the shares and the asks are as at the start; for a worker that
-- is alone no mirror so far has room.
use Rattle.std.proofs.Common.{◌≡◌}
use Rattle.mirror_ledger.specs.Asks.{AreTallied}
use Rattle.mirror_ledger.specs.Order.{AreFullBefore, IsAlone}
use Rattle.mirror_ledger.proofs.books.Shares.first_with_room.Given as goal

abbrev pub invariant-loop-index : goal.invariant-loop-index
invariant-loop-index g l =
    (l.self.first ≡ l.fn.self.first)
    × (l.self.second ≡ l.fn.self.second)
    × (l.self.third ≡ l.fn.self.third)
    × (l.self.fourth ≡ l.fn.self.fourth)
    × (l.self.asks ≡ l.fn.self.asks)
    × (IsAlone l.books g.A.Ledger.parts g.B.Ledger.parts g.C.Ledger.parts g.D.Ledger.parts g.A.BudgetName.most g.B.BudgetName.most g.C.BudgetName.most g.D.BudgetName.most
    → AreTallied l.fn.self.first l.fn.self.second l.fn.self.third l.fn.self.fourth l.fn.self.asks
    → AreFullBefore l.books l.fn.self.asks l.bytes l.index)
