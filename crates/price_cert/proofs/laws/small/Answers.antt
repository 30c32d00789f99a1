use Rattle.price_cert.proofs.SmallLemmas.{prices_are_small}
use Rattle.price_cert.proofs.laws.small.Goals as goal

pub returns : goal.returns
returns c = λ net rows graph certified. prices_are_small c.nearer.ensures.edges c.sized.ensures net rows graph certified
