use Rattle.std.proofs.Common.{◌≡◌, ℕ, ◌<◌, get_or, length}
use Rattle.reviews.specs.Reviews.{IsOutcome}
use Rattle.reviews.specs.declared.outcome.Outcome.{Outcome}
use Rattle.reviews.proofs.review.find_outcomes.Given as goal

abbrev pub invariant-loop-release : goal.invariant-loop-release
invariant-loop-release l = record {
  sized : length l.outcomes.items ≡ l.release;
  each : (release : ℕ) (d : Outcome) → release < l.release → IsOutcome l.subject.app.now l.subject.key.now release (get_or l.outcomes.items release d);
}
