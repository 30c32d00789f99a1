use Rattle.std.proofs.Common.{◌≡◌, map}
use Rattle.std.specs.List.{range_with_len}
use Rattle.reviews.specs.Steps.{steps_at}
use Rattle.reviews.proofs.steps.all_steps.Given as goal

abbrev pub invariant-loop-release : goal.invariant-loop-release
invariant-loop-release l = l.all.items ≡ map (steps_at l.app l.outcomes) (range_with_len 0 l.release)
