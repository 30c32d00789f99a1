use Rattle.std.proofs.Common.{◌≡◌, ◌++◌, take}
use Rattle.std.specs.List.{flat_map}
use Rattle.profile_toml.specs.Cohorts.{setting_edits}
use Rattle.profile_toml.proofs.app.push_all_settings.Given as goal

abbrev pub invariant-loop-cohort : goal.invariant-loop-cohort
invariant-loop-cohort l =
    l.edits ≡ l.initial.edits ++ flat_map (setting_edits l.app) (take l.cohort-index l.cohorts)
