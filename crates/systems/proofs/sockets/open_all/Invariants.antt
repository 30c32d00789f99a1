-- There is a port for each of the terms so far.
use Rattle.std.proofs.Common.{◌≡◌, All, map, take}
use Rattle.systems.specs.Sockets.{IsNewSocketPort}
use Rattle.systems.proofs.sockets.open_all.Given as goal

abbrev pub invariant-loop-each : goal.invariant-loop-each
invariant-loop-each g l =
    (map (λ port. port.terms) l.ports.items ≡ take l.each-index l.terms) × All IsNewSocketPort l.ports.items
