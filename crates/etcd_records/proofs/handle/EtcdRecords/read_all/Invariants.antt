-- The records so far are read and known.
use Rattle.etcd_records.proofs.OpenLemmas.{AreRead}
use Rattle.etcd_records.proofs.handle.EtcdRecords.read_all.Given as goal

abbrev pub invariant-loop-number : goal.invariant-loop-number
invariant-loop-number g l = AreRead g.G.Gateway.exchanges l.fn.self l.self l.all.items l._number
