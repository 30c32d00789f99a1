use Rattle.std.proofs.Common.{◌≡◌, ◌-◌, ◌<◌, length}
use Rattle.std.specs.Io.KnownBytes.{Consumes}
use Rattle.update_client.proofs.reading.read_head.Given as goal

abbrev pub invariant-reads : goal.invariant-reads
invariant-reads g l =
    Consumes (g.S.Source.remaining l.fn.source) (g.S.Source.remaining l.source) l.held.items
    × (g.S.Source.failures l.source ≡ g.S.Source.failures l.fn.source)
    × (0 < length l.block)
    × (length l.block ≡ length l.fn.block)

abbrev pub decreases-reads : goal.decreases-reads
decreases-reads g l = 16384 - length l.held.items
