use Rattle.std.proofs.Common.{◌≡◌, ◌<◌, Some, true, IfSome, IsFalse, IsTrue, vec_len}
use Rattle.http_ports.specs.Books.{slot_waits, slots_after}
use Rattle.systems.specs.Rooms.{HasWaited, IsIdle}
use Rattle.systems.proofs.mio_ports.port.MioPort.longest.Given as goal

abbrev pub invariant-loop-slot : goal.invariant-loop-slot
invariant-loop-slot g l =
    IfSome l.longest (λ slot. (slot < vec_len l.self.book.places) × (slot_waits (slots_after l.self.book.moves slot) ≡ Some true)
    × (IsTrue l.is_idle → IsIdle l.self.lists.times.waits.items l.self.lists.times.present slot)
    × (IsFalse l.is_idle → HasWaited l.self.lists.times.waits.items l.self.lists.times.present slot))
