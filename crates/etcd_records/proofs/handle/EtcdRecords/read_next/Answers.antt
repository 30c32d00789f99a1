use Rattle.std.proofs.Common.{◌∙◌}
use Rattle.etcd_records.proofs.ShownLemmas.{read_by, read_shown}
use Rattle.etcd_records.proofs.handle.EtcdRecords.read_next.Goals as goal

pub returns-clause-by : goal.returns-clause-by
returns-clause-by g c =
    let heard = c.ask-asked.ensures.heard in
    read_by _ _ _ _ _ _ _ _ _ _ _ heard.2 (c.as_bytes.ensures.value ∙ c.in-Ok.ensures) c.read_result.ensures heard.1 c.ask-asked.ensures.seen

pub returns-clause-shown : goal.returns-clause-shown
returns-clause-shown g c =
    let heard = c.ask-asked.ensures.heard in
    read_shown _ _ _ _ _ _ _ _ _ _ _ _ heard.2 (c.as_bytes.ensures.value ∙ c.in-Ok.ensures) c.read_result.ensures heard.1
    c.ask-asked.ensures.same.prefix c.ask-asked.ensures.kept
