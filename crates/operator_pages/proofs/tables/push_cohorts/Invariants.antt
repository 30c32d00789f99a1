use Rattle.std.proofs.Common.{◌≡◌, ◌++◌, string_bytes, take}
use Rattle.operator_pages.specs.Tables.{cohort_rows}
use Rattle.operator_pages.proofs.tables.push_cohorts.Given as goal

abbrev pub invariant-loop-cohort : goal.invariant-loop-cohort
invariant-loop-cohort l = string_bytes l.text ≡ string_bytes l.initial.text ++ cohort_rows (take l.cohort-index l.cohorts)
