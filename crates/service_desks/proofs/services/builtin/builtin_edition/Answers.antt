use Rattle.service_desks.proofs.BuiltinLemmas.{never_full, never_refused}
use Rattle.service_desks.proofs.services.builtin.builtin_edition.Goals as goal

pub unreachable-requires : goal.unreachable-requires
unreachable-requires c =
    let refuses = rw c.in-Err-Refused.field-0-is at c.in-Err-Refused.ensures in
    never_refused c.empty.result c.in_ok-batch.field-0 c.in-Err-Refused.field-0-0 c.empty.ensures c.in_ok-batch.ensures refuses

pub unreachable-requires-in-Err-HistoryFull : goal.unreachable-requires-in-Err-HistoryFull
unreachable-requires-in-Err-HistoryFull c =
    let full = rw c.in-Err-HistoryFull.field-0-is at c.in-Err-HistoryFull.ensures in
    never_full c.empty.result c.in_ok-batch.field-0 c.empty.ensures full
