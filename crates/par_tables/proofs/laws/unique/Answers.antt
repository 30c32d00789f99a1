use Rattle.par_tables.proofs.OneLemmas.{tables_are_one}
use Rattle.par_tables.proofs.laws.unique.Goals as goal

pub returns : goal.returns
returns c = tables_are_one c.unique.ensures
