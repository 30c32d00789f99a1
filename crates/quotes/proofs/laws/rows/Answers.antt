use Rattle.quotes.proofs.ByRowLemmas.{certified_rows_quote}
use Rattle.quotes.proofs.laws.rows.Goals as goal

pub returns : goal.returns
returns c = certified_rows_quote c.order.ensures.irreflexive c.fulls.ensures c.differs.ensures c.least.ensures
