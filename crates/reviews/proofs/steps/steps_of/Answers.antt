use Rattle.std.proofs.Common.{length, sym, arith}
use Rattle.reviews.specs.Steps.{steps_of}
use Rattle.reviews.proofs.StepLemmas.{steps_within-step}
use Rattle.reviews.proofs.steps.steps_of.Goals as goal

pub loop-steps-preserved : goal.loop-steps-preserved
loop-steps-preserved c =
    let app = c.args.app.now in
    let outcomes = c.args.outcomes.now in
    steps_within-step app outcomes (steps_of app outcomes c.args.release) (length outcomes) c.loop-steps.steps c.loop-steps.at c.in-Some.to
    (omega arith) c.loop-steps.invariant (sym c.in-Some.ensures)
