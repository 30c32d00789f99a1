use Rattle.std.proofs.Common.{◌≡◌, ◌-◌, ◌≤◌, length, take}
use Rattle.std.specs.Io.KnownBytes.{Appends}
use Rattle.http_wire.proofs.sending.send.Given as goal

abbrev pub invariant-loop-sent : goal.invariant-loop-sent
invariant-loop-sent g l =
    (l.sent ≤ length l.bytes)
    × Appends (g.W.Sink.contents l.fn.sink) (g.W.Sink.contents l.sink) (take l.sent l.bytes)
    × (g.W.Sink.failures l.sink ≡ g.W.Sink.failures l.fn.sink)

abbrev pub decreases-loop-sent : goal.decreases-loop-sent
decreases-loop-sent g l = length l.bytes - l.sent
