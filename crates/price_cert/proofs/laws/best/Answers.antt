use Rattle.price_cert.proofs.PassLemmas.{AreCertified-best}
use Rattle.price_cert.proofs.laws.best.Goals as goal

pub returns : goal.returns
returns c = AreCertified-best
