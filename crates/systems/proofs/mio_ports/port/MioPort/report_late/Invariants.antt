use Rattle.std.proofs.Common.{◌≡◌}
use Rattle.systems.proofs.mio_ports.port.MioPort.report_late.Given as goal

abbrev pub invariant-loop-slot : goal.invariant-loop-slot
invariant-loop-slot g l = (l.self.book ≡ l.initial.self.book) × (l.self.terms ≡ l.initial.self.terms)
