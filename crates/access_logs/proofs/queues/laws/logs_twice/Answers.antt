use Rattle.access_logs.proofs.RoundLemmas.{HaveLogged-after}
use Rattle.access_logs.proofs.queues.laws.logs_twice.Goals as goal

pub returns : goal.returns
returns c = HaveLogged-after
