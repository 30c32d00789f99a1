use Rattle.price_cert.proofs.LeastLemmas.{are_prices}
use Rattle.price_cert.proofs.laws.least.Goals as goal

pub returns : goal.returns
returns c = λ net rows graph certified. are_prices c.nearer.ensures.edges net rows graph certified
