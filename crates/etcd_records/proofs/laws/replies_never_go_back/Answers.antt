use Rattle.etcd_records.proofs.HeaderLemmas.{never_back}
use Rattle.etcd_records.proofs.laws.replies_never_go_back.Goals as goal

pub returns : goal.returns
returns c = never_back
