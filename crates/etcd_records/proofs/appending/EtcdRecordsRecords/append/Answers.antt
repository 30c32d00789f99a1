use Rattle.std.proofs.Common.{string_bytes, ◌∙◌}
use Rattle.etcd_records.proofs.ShownLemmas.{appended_shown}
use Rattle.etcd_records.proofs.appending.EtcdRecordsRecords.append.Goals as goal

pub learn-requires-clause-shown : goal.learn-requires-clause-shown
learn-requires-clause-shown g c =
    let heard = c.ask-asked.ensures.heard in
    appended_shown _ _ _ _ _ _ _ _ (string_bytes c.in-Ok.wanted.value) _ _ _ _ _ heard.2 (c.as_bytes.ensures.value ∙ c.in-Ok.ensures.request)
    c.deref.ensures c.in_ok-append_result.ensures c.in-Ok.ensures.decodes heard.1 c.ask-asked.ensures.same.prefix c.ask-asked.ensures.kept
