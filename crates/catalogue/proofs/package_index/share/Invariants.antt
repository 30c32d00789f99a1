use Rattle.std.proofs.Common.{◌≡◌, map, take}
use Rattle.std.specs.Arc.{arc_value}
use Rattle.catalogue.proofs.package_index.share.Given as goal

abbrev pub invariant-loop-shard : goal.invariant-loop-shard
invariant-loop-shard l = map arc_value l.copy.items ≡ map arc_value (take l.shard-index l.shards)
