use Rattle.std.proofs.Common.{sym}
use Rattle.etcd_records.proofs.ReplyLemmas.{json_of-read, json_of-refused}
use Rattle.etcd_records.proofs.replies.parse.Goals as goal

pub returns-in-Ok : goal.returns-in-Ok
returns-in-Ok c = sym (json_of-read _ _ c.in-Ok.ensures.ok.0 c.in-Ok.ensures.ok.1)

pub returns-in_default : goal.returns-in_default
returns-in_default c =
    sym (json_of-refused _ (c.in-Err.ensures.err (λ memory. c.in_default.not-Memory (c.classify.ensures.memory.1 memory))))
