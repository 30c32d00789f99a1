use Rattle.etcd_records.proofs.HandleLemmas.{asked_more}
use Rattle.etcd_records.proofs.handle.EtcdRecords.ask.Goals as goal

pub invariant_of-self : goal.invariant_of-self
invariant_of-self g c = asked_more _ _ _ _ _ _ _ _ _ c.self.invariant c.ask-asked.ensures.1
