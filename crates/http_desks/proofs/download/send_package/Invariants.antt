use Rattle.std.proofs.Common.{◌≡◌, ◌-◌, List, ℕ}
use Rattle.std.specs.Io.KnownBytes.{Appends}
use Rattle.http_desks.specs.Downloads.{ReadsFrom, full_blocks, joined_blocks}
use Rattle.http_desks.specs.Transfers.{IsAt}
use Rattle.http_desks.proofs.download.send_package.Given as goal

abbrev pub invariant-turns : goal.invariant-turns
invariant-turns g l =
    (blocks : List (List ℕ)) × IsAt blocks l.transfer × (l.transfer.size ≡ l.size)
    × ReadsFrom (g.P.Packages.reads l.packages l.name) 0 blocks
    × Appends (g.W.Sink.contents l.fn.sink) (g.W.Sink.contents l.sink) (joined_blocks blocks)
    × (g.W.Sink.failures l.sink ≡ g.W.Sink.failures l.fn.sink)

abbrev pub decreases-turns : goal.decreases-turns
decreases-turns g l = full_blocks l.size - l.transfer.index
