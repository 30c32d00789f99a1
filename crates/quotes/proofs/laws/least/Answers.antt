use Rattle.quotes.proofs.ChainLemmas.{prices_are_least_on_tracks}
use Rattle.quotes.proofs.laws.least.Goals as goal

pub returns : goal.returns
returns c = prices_are_least_on_tracks c.order.ensures.irreflexive c.fulls.ensures c.differs.ensures
