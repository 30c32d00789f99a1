use Rattle.std.proofs.Common.{◌≡◌, map, take}
use Rattle.toml.specs.View.{table_view}
use Rattle.profile_toml.specs.WrittenFields.{mirror_table}
use Rattle.profile_toml.proofs.writing.profile.write_mirrors.Given as goal

abbrev pub invariant-loop-mirror : goal.invariant-loop-mirror
invariant-loop-mirror l =
    map table_view l.tables.items ≡ map mirror_table (take l.mirror-index l.mirrors)
