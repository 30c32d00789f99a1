use Rattle.std.proofs.Common.{◌≡◌, take}
use Rattle.std.specs.Io.KnownBytes.{Appends}
use Rattle.http_wire.specs.Sending.{joined}
use Rattle.http_wire.proofs.sending.send_all.Given as goal

abbrev pub invariant-loop-text : goal.invariant-loop-text
invariant-loop-text g l =
    Appends (g.W.Sink.contents l.fn.sink) (g.W.Sink.contents l.sink) (joined (take l.text-index l.texts))
    × (g.W.Sink.failures l.sink ≡ g.W.Sink.failures l.fn.sink)
