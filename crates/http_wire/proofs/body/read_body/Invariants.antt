use Rattle.std.proofs.Common.{◌≡◌, ◌-◌, ◌≤◌, ◌<◌, [], length, take, ◌++◌, List, ℕ}
use Rattle.std.specs.Io.KnownBytes.{Consumes}
use Rattle.http_wire.proofs.body.read_body.Given as goal

abbrev pub invariant-loop-filled : goal.invariant-loop-filled
invariant-loop-filled g l =
    (l.filled ≤ length l.body)
    × ((bytes : List ℕ) × Consumes (g.S.Source.remaining l.fn.source) (g.S.Source.remaining l.source) bytes
    × (l.fn.window ++ bytes ≡ take l.filled l.body ++ l.window))
    × (l.filled < length l.body → l.window ≡ [])
    × (g.S.Source.failures l.source ≡ g.S.Source.failures l.fn.source)

abbrev pub decreases-loop-filled : goal.decreases-loop-filled
decreases-loop-filled g l = length l.initial.body - l.filled
