-- What the index of packages finds under a name; private to this crate.
use Rattle.std.specs.Prelude.{ℕ, ◌+◌, ◌*◌, ◌%◌, List, fold, map, Option, option_and_then, slice_get}
use Rattle.std.specs.Arc.{arc_value}
use Rattle.std.specs.BTreeMap.{get_by_text}
use Rattle.values.specs.declared.declared.Declared.{Declared}
use Rattle.catalogue.specs.declared.package_index.PackageIndex.{PackageIndex}
use Rattle.catalogue.specs.declared.package_index.Shard.{Shard}

-- which shard a name belongs to: its bytes, as one number, modulo the number of shards
abbrev pub shard_of : List ℕ → ℕ
shard_of name = fold (λ rest byte. (rest * 256 + byte) % 1021) 0 name

-- what a shard finds under a name
abbrev pub found_in_shard : Shard → List ℕ → Option Declared
found_in_shard shard name = get_by_text shard.declared name

-- what the shards find under a name: what its own shard finds, if there is one
abbrev pub found_among : List Shard → List ℕ → Option Declared
found_among shards name = option_and_then (λ shard. found_in_shard shard name) (slice_get shards (shard_of name))

-- what the index finds under a name
abbrev pub found_in : PackageIndex → List ℕ → Option Declared
found_in index name = found_among (map arc_value index.shards.items) name
