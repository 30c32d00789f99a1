use Rattle.theorems.proofs.HeadlineLemmas.{offers_lead_to_targets}
use Rattle.theorems.proofs.interleavings.laws.following.Goals as goal

pub returns : goal.returns
returns c =
    offers_lead_to_targets c.every_interleaving.ensures.replies c.statuses.ensures c.steps.ensures
    c.walk.ensures.exists c.walk.ensures.least
