use Rattle.std.proofs.Common.{◌≡◌, ◌<◌, take}
use Rattle.catalogue.specs.PackageIndex.{shard_of}
use Rattle.catalogue.proofs.package_index.shard_of.Given as goal

abbrev pub invariant-loop-byte : goal.invariant-loop-byte
invariant-loop-byte l = record {
  value : l.rest ≡ shard_of (take l.byte-index l.byte-items);
  bound : l.rest < 1021;
}
