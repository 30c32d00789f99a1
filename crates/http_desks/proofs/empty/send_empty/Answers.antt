use Rattle.std.proofs.Common.{append-nil}
use Rattle.http_desks.proofs.ReplyLemmas.{head_bytes-lines}
use Rattle.http_desks.proofs.empty.send_empty.Goals as goal

pub returns-clause-sends : goal.returns-clause-sends
returns-clause-sends g c = simp (head_bytes-lines, append-nil) at c.send_reply.ensures.sends
