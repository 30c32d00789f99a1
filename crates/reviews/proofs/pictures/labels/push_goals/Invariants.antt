use Rattle.std.proofs.Common.{◌≡◌, ◌++◌, string_bytes, take}
use Rattle.reviews.specs.Labels.{goals_string}
use Rattle.reviews.proofs.pictures.labels.push_goals.Given as goal

abbrev pub invariant-loop-goal : goal.invariant-loop-goal
invariant-loop-goal l = string_bytes l.text ≡ string_bytes l.initial.text ++ goals_string l.app l.release (take l.goal-index l.goals)
