use Rattle.std.proofs.Common.{◌≡◌, map, take}
use Rattle.toml.specs.View.{table_view}
use Rattle.profile_toml.specs.WrittenFields.{release_table}
use Rattle.profile_toml.proofs.writing.release.write_releases.Given as goal

abbrev pub invariant-loop-release : goal.invariant-loop-release
invariant-loop-release l =
    map table_view l.tables.items ≡ map release_table (take l.release-index l.releases)
