use Rattle.std.proofs.Common.{◌≡◌, ◌-◌, ◌<◌, ◌≤◌, List, All, drop, length}
use Rattle.std.specs.Prelude.{vec_len}
use Rattle.std.specs.List.{flat_map}
use Rattle.update_client.specs.Chunks.{Chunk, IsChunk, content_of, print_chunk}
use Rattle.update_client.specs.Reads.{Uses}
use Rattle.update_client.proofs.chunked.chunked.read_chunked.Given as goal

abbrev pub invariant-chunks : goal.invariant-chunks
invariant-chunks g l =
    ((chunks : List Chunk)
    × All IsChunk chunks
    × Uses (g.S.Source.remaining l.fn.source) (g.S.Source.remaining l.source) (drop l.fn.at l.fn.held.items) l.waiting (flat_map print_chunk chunks)
    × (l.body.items ≡ content_of chunks))
    × (vec_len l.body ≤ l.limit)
    × (g.S.Source.failures l.source ≡ g.S.Source.failures l.fn.source)
    × (0 < length l.block)

abbrev pub decreases-chunks : goal.decreases-chunks
decreases-chunks g l = l.limit - vec_len l.body
