use Rattle.theorems.proofs.SentLemmas.{served_replies_are_published}
use Rattle.theorems.proofs.interleavings.laws.served_replies.Goals as goal

pub returns : goal.returns
returns c =
    served_replies_are_published c.runs_are_interleavings.ensures c.every_interleaving.ensures.replies
