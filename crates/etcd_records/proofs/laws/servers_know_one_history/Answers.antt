use Rattle.etcd_records.proofs.LawLemmas.{one_history}
use Rattle.etcd_records.proofs.laws.servers_know_one_history.Goals as goal

pub returns : goal.returns
returns c = one_history
