use Rattle.etcd_records.proofs.HeaderLemmas.{header_both}
use Rattle.etcd_records.proofs.headers.header_of.Goals as goal

pub returns : goal.returns
returns c = header_both _ _ _ _ c.in_ok-cluster.ensures c.in_ok-revision.ensures
