-- The parts so far and the shares that are left are those that were handed in.
use Rattle.std.proofs.Common.{◌≡◌, ◌+◌, sum_by, vec_len}
use Rattle.mirror_ledger.proofs.closing.gathered.Given as goal

abbrev pub decreases-loop-next : goal.decreases-loop-next
decreases-loop-next g l = vec_len l.shares

abbrev pub invariant-loop-next : goal.invariant-loop-next
invariant-loop-next g l =
    (l.parts.first.parts + vec_len l.shares ≡ vec_len l.fn.shares)
    × (l.parts.first.amount + sum_by (λ s. s.first) l.shares.items ≡ sum_by (λ s. s.first) l.fn.shares.items)
    × (l.parts.second.parts + vec_len l.shares ≡ vec_len l.fn.shares)
    × (l.parts.second.amount + sum_by (λ s. s.second) l.shares.items ≡ sum_by (λ s. s.second) l.fn.shares.items)
    × (l.parts.third.parts + vec_len l.shares ≡ vec_len l.fn.shares)
    × (l.parts.third.amount + sum_by (λ s. s.third) l.shares.items ≡ sum_by (λ s. s.third) l.fn.shares.items)
    × (l.parts.fourth.parts + vec_len l.shares ≡ vec_len l.fn.shares)
    × (l.parts.fourth.amount + sum_by (λ s. s.fourth) l.shares.items ≡ sum_by (λ s. s.fourth) l.fn.shares.items)
