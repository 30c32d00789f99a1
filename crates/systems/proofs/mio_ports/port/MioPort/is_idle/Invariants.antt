use Rattle.std.proofs.Common.{◌≡◌, ◌<◌, ℕ, None}
use Rattle.http_ports.specs.Books.{slot_waits, slots_after}
use Rattle.systems.proofs.mio_ports.port.MioPort.is_idle.Given as goal

abbrev pub invariant-loop-slot : goal.invariant-loop-slot
invariant-loop-slot g l = (k : ℕ) → k < l.slot → slot_waits (slots_after l.self.book.moves k) ≡ None
