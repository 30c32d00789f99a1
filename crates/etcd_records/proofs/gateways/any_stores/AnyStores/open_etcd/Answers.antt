use Rattle.std.proofs.Common.{◌∙◌, ap}
use Rattle.etcd_records.specs.Paths.{parts_of}
use Rattle.etcd_records.specs.Stores.{attempts_for}
use Rattle.etcd_records.proofs.StoreLemmas.{failed_by, no_memory, opened_by}
use Rattle.etcd_records.proofs.gateways.any_stores.AnyStores.open_etcd.Goals as goal

pub returns-in-Ok-open-clause-opened : goal.returns-in-Ok-open-clause-opened
returns-in-Ok-open-clause-opened g c =
    opened_by (parts_of c.args.parts.now) c.args.limit c.in-Ok-open.records _ _ _ c.in-Ok.ensures.addresses c.in-Ok.ensures.prefix
    (c.attempts_for-attempts.ensures ∙ ap attempts_for c.len.ensures)
    c.in-Ok-open.ensures.prefix c.in-Ok-open.ensures.attempts c.in-Ok-open.ensures.limit c.are_shown.ensures
    c.in-Ok-open.ensures.all

pub returns-in-Err-clause-err : goal.returns-in-Err-clause-err
returns-in-Err-clause-err g c =
    failed_by (parts_of c.args.parts.now) _ _ _ _ c.in-Ok.ensures.addresses c.in-Ok.ensures.prefix
    (c.attempts_for-attempts.ensures ∙ ap attempts_for c.len.ensures) c.in-Err.ensures.err

pub returns-in_default-clause-err : goal.returns-in_default-clause-err
returns-in_default-clause-err g c = no_memory _ _
