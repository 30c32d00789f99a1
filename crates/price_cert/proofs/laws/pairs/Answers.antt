use Rattle.price_cert.proofs.PairLemmas.{pairs_decide_bounds}
use Rattle.price_cert.proofs.laws.pairs.Goals as goal

pub returns : goal.returns
returns c = pairs_decide_bounds
