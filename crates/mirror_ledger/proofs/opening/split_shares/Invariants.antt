-- Each worker so far has one part of each ledger, with no bytes.
use Rattle.std.proofs.Common.{◌≡◌, ◌+◌, All, vec_len}
use Rattle.mirror_ledger.specs.Asks.{AreUnused}
use Rattle.mirror_ledger.proofs.opening.split_shares.Given as goal

abbrev pub invariant-loop-worker : goal.invariant-loop-worker
invariant-loop-worker g l =
    (l.rest.first.parts + l._worker ≡ l.workers)
    × (l.rest.first.amount ≡ 0)
    × (l.rest.second.parts + l._worker ≡ l.workers)
    × (l.rest.second.amount ≡ 0)
    × (l.rest.third.parts + l._worker ≡ l.workers)
    × (l.rest.third.amount ≡ 0)
    × (l.rest.fourth.parts + l._worker ≡ l.workers)
    × (l.rest.fourth.amount ≡ 0)
    × (vec_len l.shares ≡ l._worker)
    × All (λ s. AreUnused s.first s.second s.third s.fourth s.asks) l.shares.items
