-- The tills so far are of the shares that are no longer left.
use Rattle.std.proofs.Common.{◌≡◌, ◌+◌, All, vec_len}
use Rattle.mirror_ledger.specs.Asks.{AreUnused}
use Rattle.mirror_ledger.proofs.working.tills_of.Given as goal

abbrev pub decreases-loop-next : goal.decreases-loop-next
decreases-loop-next g l = vec_len l.shares

abbrev pub invariant-loop-next : goal.invariant-loop-next
invariant-loop-next g l =
    (vec_len l.tills + vec_len l.shares ≡ vec_len l.fn.shares)
    × All (λ s. AreUnused s.first s.second s.third s.fourth s.asks) l.shares.items
    × All (λ till. till.books.now ≡ l.books) l.tills.items
    × All (λ till. AreUnused till.shares.first till.shares.second till.shares.third till.shares.fourth till.shares.asks) l.tills.items
