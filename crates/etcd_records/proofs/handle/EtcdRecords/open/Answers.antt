use Rattle.std.proofs.Common.{refl, sym, ◌∙◌}
use Rattle.etcd_records.proofs.OpenLemmas.{AreAll-at}
use Rattle.etcd_records.proofs.handle.EtcdRecords.open.Goals as goal

pub returns-in-Ok-clause-all : goal.returns-in-Ok-clause-all
returns-in-Ok-clause-all g c =
    let same = c.in-Ok.ensures.same in
    AreAll-at _ _ _ _ _ _ _ (sym (same.attempts ∙ c.fresh-records.ensures.attempts)) (sym (same.prefix ∙ c.fresh-records.ensures.prefix)) refl c.in-Ok.ensures.all
