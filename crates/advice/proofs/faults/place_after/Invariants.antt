use Rattle.std.proofs.Common.{◌≡◌, ◌+◌, ◌≤◌, drop}
use Rattle.advice.specs.Faults.{place_after}
use Rattle.advice.proofs.faults.place_after.Given as goal

abbrev pub invariant-loop-byte : goal.invariant-loop-byte
invariant-loop-byte l =
    (place_after 1 1 l.bytes ≡ place_after l.line l.column (drop l.byte-index l.bytes))
    × (l.line ≤ l.byte-index + 1) × (l.column ≤ l.byte-index + 1)
