use Rattle.buckets.proofs.ClientLemmas.{keeps-targets}
use Rattle.buckets.proofs.GrowthLemmas.{batches-grow}
use Rattle.buckets.proofs.laws.clients_keep_targets.Goals as goal

pub returns : goal.returns
returns c = record { kept = keeps-targets; grown = batches-grow }
