use Rattle.std.proofs.Common.{◌≡◌, ◌++◌, take}
use Rattle.par_tables.specs.Tracks.{app_keys, cohort_keys, joined_from}
use Rattle.par_tables.proofs.tracks.push_app.Given as goal

abbrev pub invariant-loop-index : goal.invariant-loop-index
invariant-loop-index l =
    l.keys.items ≡ joined_from app_keys 0 (take l.app l.catalogue) ++ joined_from (cohort_keys l.app) 0 (take l.index l.cohorts)
