use Rattle.theorems.proofs.RequestLemmas.{asks_get_replies, replies_are_whole}
use Rattle.theorems.proofs.laws.replies.Goals as goal

pub returns : goal.returns
returns c = record { each = asks_get_replies; whole = replies_are_whole }
