use Rattle.access_logs.proofs.RingLemmas.{ends-stay}
use Rattle.access_logs.proofs.queues.laws.ends_stay.Goals as goal

pub returns : goal.returns
returns c = ends-stay
