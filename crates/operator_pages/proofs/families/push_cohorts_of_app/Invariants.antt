use Rattle.std.proofs.Common.{◌≡◌, ◌++◌, flat_map, string_bytes, take}
use Rattle.operator_pages.specs.Families.{cohort_sample}
use Rattle.operator_pages.proofs.families.push_cohorts_of_app.Given as goal

abbrev pub invariant-loop-cohort : goal.invariant-loop-cohort
invariant-loop-cohort l =
    string_bytes l.text ≡ string_bytes l.initial.text ++ flat_map (cohort_sample l.metric l.app) (take l.cohort-index l.app.cohorts)
