use Rattle.access_logs.proofs.RoundLemmas.{HaveLogged-next}
use Rattle.access_logs.proofs.queues.laws.logs_on.Goals as goal

pub returns : goal.returns
returns c = HaveLogged-next
