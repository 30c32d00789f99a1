use Rattle.std.proofs.Common.{◌≡◌, ◌≢◌, ◌<◌, ◌≤◌, ℕ, drop, get_or}
use Rattle.http_wire.specs.Closing.{lists_close}
use Rattle.http_wire.proofs.heads.closing.lists_close.Given as goal

abbrev pub invariant-loop-end : goal.invariant-loop-end
invariant-loop-end l =
    (l.start ≤ l.end)
    × ((k : ℕ) → l.start ≤ k → k < l.end → get_or l.value k 0 ≢ 44)
    × (lists_close (drop l.start l.value) ≡ lists_close l.fn.value)
