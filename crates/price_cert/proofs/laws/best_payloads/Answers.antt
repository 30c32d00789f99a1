use Rattle.price_cert.proofs.BestLemmas.{lists_have_best}
use Rattle.price_cert.proofs.laws.best_payloads.Goals as goal

pub returns : goal.returns
returns c = lists_have_best
