use Rattle.theorems.proofs.HeadlineLemmas.{replies_say_true}
use Rattle.theorems.proofs.interleavings.laws.statuses.Goals as goal

pub returns : goal.returns
returns c = replies_say_true c.every_interleaving.ensures.replies c.statuses.ensures
