use Rattle.std.proofs.Common.{◌≡◌, ◌-◌, length}
use Rattle.http_wire.specs.Devices.{Came}
use Rattle.http_wire.proofs.head.read_head.Given as goal

abbrev pub invariant-reads : goal.invariant-reads
invariant-reads g l =
    Came (g.S.Source.remaining l.fn.source) (g.S.Source.remaining l.source) l.fn.window l.window
    × (g.S.Source.failures l.source ≡ g.S.Source.failures l.fn.source)

abbrev pub decreases-reads : goal.decreases-reads
decreases-reads g l = 16384 - length l.window
