use Rattle.std.proofs.Common.{rules}
use Rattle.cohorts.proofs.track.choose_lane.Goals as goal

pub returns-then-from-cohort : goal.returns-then-from-cohort
returns-then-from-cohort c = search rules
