use Rattle.std.proofs.Common.{◌≡◌, List, ℕ, length}
use Rattle.sha2.specs.Hashers.{Holds256}
use Rattle.http_desks.specs.Downloads.{ReadsFrom, joined_blocks}
use Rattle.package_files.proofs.hashing.hash_package.Given as goal

abbrev pub invariant-loop-index : goal.invariant-loop-index
invariant-loop-index g l =
    (blocks : List (List ℕ)) × (length blocks ≡ l.index)
    × ReadsFrom (g.P.Packages.reads l.packages l.name) 0 blocks
    × Holds256 l.hasher (joined_blocks blocks)
