use Rattle.price_cert.proofs.UniqueLemmas.{tables_are_one}
use Rattle.price_cert.proofs.laws.unique.Goals as goal

pub returns : goal.returns
returns c = λ net rows others graph one two. tables_are_one c.nearer.ensures.edges net rows others graph one two
