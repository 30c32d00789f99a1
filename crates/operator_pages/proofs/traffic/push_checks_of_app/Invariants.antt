-- The lines so far and those that are left are the whole.
use Rattle.std.proofs.Common.{◌≡◌, ◌++◌, drop, flat_map, string_bytes}
use Rattle.std.specs.List.{zip}
use Rattle.operator_pages.specs.Traffic.{checks_of_cohort}
use Rattle.operator_pages.proofs.traffic.push_checks_of_app.Given as goal

abbrev pub invariant-loop-index : goal.invariant-loop-index
invariant-loop-index l =
    string_bytes l.text ++ flat_map (checks_of_cohort l.app) (drop l.index (zip l.cohorts l.checks))
    ≡ string_bytes l.initial.text ++ flat_map (checks_of_cohort l.app) (zip l.cohorts l.checks)
