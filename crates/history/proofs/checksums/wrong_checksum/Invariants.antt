-- If no row so far was wrong, each has its checksum.
use Rattle.std.proofs.Common.{◌≡◌, All, None, take}
use Rattle.history.specs.Holdings.{HasChecksum}
use Rattle.history.proofs.checksums.wrong_checksum.Given as goal

abbrev pub invariant-loop-row : goal.invariant-loop-row
invariant-loop-row l = l.wrong ≡ None → All (HasChecksum l.first l.sums) (take l.row-index l.rows)
