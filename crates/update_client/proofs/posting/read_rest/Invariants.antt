use Rattle.std.proofs.Common.{◌≡◌, ◌-◌, ◌<◌, ◌≤◌, length}
use Rattle.std.specs.Prelude.{vec_len}
use Rattle.http_wire.specs.Devices.{Came}
use Rattle.update_client.proofs.posting.read_rest.Given as goal

abbrev pub invariant-loop-source : goal.invariant-loop-source
invariant-loop-source g l =
    Came (g.S.Source.remaining l.fn.source) (g.S.Source.remaining l.source) l.fn.body.items l.body.items
    × (g.S.Source.failures l.source ≡ g.S.Source.failures l.fn.source)
    × (vec_len l.body ≤ l.size)
    × (0 < length l.block)

abbrev pub decreases-loop-source : goal.decreases-loop-source
decreases-loop-source g l = l.size - vec_len l.body
