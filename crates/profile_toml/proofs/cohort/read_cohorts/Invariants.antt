use Rattle.std.proofs.Common.{◌≡◌, [], drop}
use Rattle.toml.specs.View.{items_view}
use Rattle.profile_toml.specs.Readers.{listed}
use Rattle.profile_toml.specs.Cohorts.{cohorts_after}
use Rattle.profile_toml.proofs.cohort.read_cohorts.Given as goal

abbrev pub invariant-loop-index : goal.invariant-loop-index
invariant-loop-index l =
    cohorts_after l.cohorts (listed l.list).path l.index (items_view (drop l.index l.values))
    ≡ cohorts_after [] (listed l.list).path 0 (items_view l.values)
