use Rattle.std.proofs.Common.{◌≡◌, ◌-◌, ◌<◌, length}
use Rattle.http_wire.specs.Devices.{Came}
use Rattle.update_client.proofs.chunked.piece.read_piece.Given as goal

abbrev pub invariant-reads : goal.invariant-reads
invariant-reads g l =
    Came (g.S.Source.remaining l.fn.source) (g.S.Source.remaining l.source) l.fn.waiting l.waiting
    × (g.S.Source.failures l.source ≡ g.S.Source.failures l.fn.source)
    × (0 < length l.block)
    × (length l.block ≡ length l.fn.block)

abbrev pub decreases-reads : goal.decreases-reads
decreases-reads g l = 16384 - length l.waiting
