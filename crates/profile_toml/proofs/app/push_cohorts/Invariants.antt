use Rattle.std.proofs.Common.{◌≡◌, ◌++◌, take}
use Rattle.std.specs.List.{flat_map}
use Rattle.profile_toml.specs.Cohorts.{cohort_edits}
use Rattle.profile_toml.proofs.app.push_cohorts.Given as goal

abbrev pub invariant-loop-cohort : goal.invariant-loop-cohort
invariant-loop-cohort l =
    l.edits ≡ l.initial.edits ++ flat_map (cohort_edits l.app l.default) (take l.cohort-index l.cohorts)
