use Rattle.std.proofs.Common.{◌≡◌, ◌+◌, ◌-◌, length}
use Rattle.reviews.specs.Steps.{steps_of, steps_within}
use Rattle.reviews.proofs.steps.steps_of.Given as goal

abbrev pub invariant-loop-steps : goal.invariant-loop-steps
invariant-loop-steps l = steps_of l.app l.outcomes l.release ≡ l.steps + steps_within l.app l.outcomes (length l.outcomes - l.steps) l.at
