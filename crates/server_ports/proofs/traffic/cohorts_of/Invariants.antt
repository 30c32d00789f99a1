use Rattle.std.proofs.Common.{◌≡◌, take}
use Rattle.server_ports.specs.Counting.{cohort_counts}
use Rattle.server_ports.proofs.traffic.cohorts_of.Given as goal

abbrev pub invariant-loop-app : goal.invariant-loop-app
invariant-loop-app l = l.cohorts.items ≡ cohort_counts (take l.app-index l.apps)
