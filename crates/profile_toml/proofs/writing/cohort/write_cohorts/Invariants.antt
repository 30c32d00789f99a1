use Rattle.std.proofs.Common.{◌≡◌, map, take}
use Rattle.toml.specs.View.{table_view}
use Rattle.profile_toml.specs.WrittenFields.{cohort_table}
use Rattle.profile_toml.proofs.writing.cohort.write_cohorts.Given as goal

abbrev pub invariant-loop-cohort : goal.invariant-loop-cohort
invariant-loop-cohort l =
    map table_view l.tables.items ≡ map (cohort_table l.releases) (take l.cohort-index l.cohorts)
