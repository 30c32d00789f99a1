use Rattle.std.proofs.Common.{◌≡◌, ◌+◌, ◌<◌, List, ℕ, ◌++◌, length}
use Rattle.update_client.specs.Reads.{Uses}
use Rattle.update_client.proofs.chunked.chunked.read_content.Given as goal

abbrev pub invariant-loop-left : goal.invariant-loop-left
invariant-loop-left g l =
    ((content : List ℕ)
    × Uses (g.S.Source.remaining l.fn.source) (g.S.Source.remaining l.source) l.fn.waiting l.waiting content
    × (length content + l.left ≡ l.size)
    × (l.body.items ≡ l.fn.body.items ++ content))
    × (g.S.Source.failures l.source ≡ g.S.Source.failures l.fn.source)
    × (0 < length l.block)
    × (length l.block ≡ length l.fn.block)

abbrev pub decreases-loop-left : goal.decreases-loop-left
decreases-loop-left g l = l.left
