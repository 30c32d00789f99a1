use Rattle.std.proofs.Common.{◌∙◌}
use Rattle.reviews.specs.Steps.{steps_at}
use Rattle.reviews.proofs.ListLemmas.{map-range_pushed}
use Rattle.reviews.proofs.steps.all_steps.Goals as goal

pub loop-release-preserved : goal.loop-release-preserved
loop-release-preserved c =
    c.in_ok-push.ensures.items
    ∙ map-range_pushed (steps_at c.args.app.now c.args.outcomes.now) c.loop-release.all.items c.loop-release.release c.steps_at.result
    c.steps_at.ensures c.loop-release.invariant
