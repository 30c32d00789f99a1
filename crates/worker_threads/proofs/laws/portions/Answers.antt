use Rattle.worker_threads.proofs.PortionLemmas.{portions-all}
use Rattle.worker_threads.proofs.laws.portions.Goals as goal

pub returns : goal.returns
returns c = portions-all
