use Rattle.std.proofs.Common.{refl, subst, arith}
use Rattle.std.specs.Io.KnownBytes.{Appends}
use Rattle.http_wire.specs.Sending.{AppendsPart}
use Rattle.http_desks.specs.Pages.{page_fields, page_status}
use Rattle.http_desks.proofs.ReplyLemmas.{answer_text, head_bytes-lines}
use Rattle.http_desks.proofs.showing.send_page.Goals as goal

pub returns-in-Ok-clause-sends : goal.returns-in-Ok-clause-sends
returns-in-Ok-clause-sends g c = (
  refl,
  subst (Appends (g.W.Sink.contents c.args.sink.now) (g.W.Sink.contents c.send_reply.new.sink))
      (answer_text c.status.result (page_status c.args.page.now.kind) c.fields.result.now (page_fields c.args.page.now.kind) c.deref.result.now
      c.args.page.now.body.items c.len.result c.args.closes c.status.ensures c.fields.ensures c.deref.ensures.value
      (omega (arith, c.len.ensures, c.args.page.now.body.ok.0)))
      (rw head_bytes-lines at c.in-Ok.ensures.sends),
)

pub returns-in-Err-clause-sends : goal.returns-in-Err-clause-sends
returns-in-Err-clause-sends g c =
    subst (AppendsPart (g.W.Sink.contents c.args.sink.now) (g.W.Sink.contents c.send_reply.new.sink))
    (answer_text c.status.result (page_status c.args.page.now.kind) c.fields.result.now (page_fields c.args.page.now.kind) c.deref.result.now
    c.args.page.now.body.items c.len.result c.args.closes c.status.ensures c.fields.ensures c.deref.ensures.value
    (omega (arith, c.len.ensures, c.args.page.now.body.ok.0)))
    (rw head_bytes-lines at c.in-Err.ensures.sends)
