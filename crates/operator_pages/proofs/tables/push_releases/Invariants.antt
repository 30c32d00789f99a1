use Rattle.std.proofs.Common.{◌≡◌, ◌++◌, string_bytes, take}
use Rattle.operator_pages.specs.Tables.{release_rows}
use Rattle.operator_pages.proofs.tables.push_releases.Given as goal

abbrev pub invariant-loop-release : goal.invariant-loop-release
invariant-loop-release l = string_bytes l.text ≡ string_bytes l.initial.text ++ release_rows (take l.release-index l.releases)
