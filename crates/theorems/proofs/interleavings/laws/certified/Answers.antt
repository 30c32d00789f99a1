use Rattle.theorems.proofs.RowLemmas.{requests_have_rows}
use Rattle.theorems.proofs.interleavings.laws.certified.Goals as goal

pub returns : goal.returns
returns c = requests_have_rows c.validity.ensures c.graphs.ensures c.tables.ensures
