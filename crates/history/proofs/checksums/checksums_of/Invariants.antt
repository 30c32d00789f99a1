-- The checksums of the records so far.
use Rattle.std.proofs.Common.{◌≡◌, take}
use Rattle.kept_records.specs.Checksums.{checksum_from, checksums_from, no_checksum}
use Rattle.history.proofs.checksums.checksums_of.Given as goal

abbrev pub invariant-loop-at : goal.invariant-loop-at
invariant-loop-at l =
    (l.sums.items ≡ checksums_from l.first no_checksum (take l.at l.kept))
    × (l.last ≡ checksum_from l.first no_checksum (take l.at l.kept))
