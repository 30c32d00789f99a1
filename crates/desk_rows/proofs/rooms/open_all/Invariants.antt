-- There is a port for each of the terms so far.
use Rattle.std.proofs.Common.{◌≡◌, All, map, take}
use Rattle.desk_rows.specs.NewScripts.{IsNewScript}
use Rattle.desk_rows.proofs.rooms.open_all.Given as goal

abbrev pub invariant-loop-each : goal.invariant-loop-each
invariant-loop-each l =
    (map (λ port. port.terms) l.ports.items ≡ take l.each-index l.terms) × All IsNewScript l.ports.items
