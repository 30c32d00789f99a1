use Rattle.std.proofs.Common.{rules}
use Rattle.editions.proofs.marks.is_same_cohort.Goals as goal

pub returns-then-is_same_target : goal.returns-then-is_same_target
returns-then-is_same_target c = search rules
