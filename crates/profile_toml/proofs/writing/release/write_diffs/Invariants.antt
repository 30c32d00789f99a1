use Rattle.std.proofs.Common.{◌≡◌, map, take}
use Rattle.toml.specs.View.{table_view}
use Rattle.profile_toml.specs.WrittenFields.{diff_table}
use Rattle.profile_toml.proofs.writing.release.write_diffs.Given as goal

abbrev pub invariant-loop-diff : goal.invariant-loop-diff
invariant-loop-diff l =
    map table_view l.tables.items ≡ map (diff_table l.releases) (take l.diff-index l.diffs)
