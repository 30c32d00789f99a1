use Rattle.std.proofs.Common.{◌≡◌}
use Rattle.systems.proofs.mio_ports.port.MioPort.take_free.Given as goal

abbrev pub invariant-loop : goal.invariant-loop
invariant-loop g l = (l.self.book ≡ l.initial.self.book) × (l.self.terms ≡ l.initial.self.terms)
