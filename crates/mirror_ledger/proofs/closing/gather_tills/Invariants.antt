-- The parts so far and the tills that are left are those that were handed in.
use Rattle.std.proofs.Common.{◌≡◌, ◌+◌, map, vec_len}
use Rattle.mirror_ledger.specs.Tills.{granted_by}
use Rattle.mirror_ledger.proofs.closing.gather_tills.Given as goal

abbrev pub decreases-loop-next : goal.decreases-loop-next
decreases-loop-next g l = vec_len l.tills

abbrev pub invariant-loop-next : goal.invariant-loop-next
invariant-loop-next g l =
    (l.parts.first.parts + vec_len l.tills ≡ vec_len l.fn.tills)
    × (l.parts.first.amount + granted_by (map (λ t. t.shares.asks) l.tills.items) 0 ≡ granted_by (map (λ t. t.shares.asks) l.fn.tills.items) 0)
    × (l.parts.second.parts + vec_len l.tills ≡ vec_len l.fn.tills)
    × (l.parts.second.amount + granted_by (map (λ t. t.shares.asks) l.tills.items) 1 ≡ granted_by (map (λ t. t.shares.asks) l.fn.tills.items) 1)
    × (l.parts.third.parts + vec_len l.tills ≡ vec_len l.fn.tills)
    × (l.parts.third.amount + granted_by (map (λ t. t.shares.asks) l.tills.items) 2 ≡ granted_by (map (λ t. t.shares.asks) l.fn.tills.items) 2)
    × (l.parts.fourth.parts + vec_len l.tills ≡ vec_len l.fn.tills)
    × (l.parts.fourth.amount + granted_by (map (λ t. t.shares.asks) l.tills.items) 3 ≡ granted_by (map (λ t. t.shares.asks) l.fn.tills.items) 3)
