use Rattle.std.proofs.Common.{Ok, Err, List, ℕ, refl, ap, subst, ◌∙◌, arith}
use Rattle.std.specs.Io.KnownBytes.{Appends}
use Rattle.http_wire.specs.Sending.{AppendsPart}
use Rattle.http_desks.specs.Replies.{kind_for, status_of}
use Rattle.http_desks.specs.Uses.{Asked}
use Rattle.http_desks.proofs.ReplyLemmas.{answer_text, head_bytes-lines}
use Rattle.http_desks.proofs.answering.ask.Goals as goal

pub returns-in-Ok-send_reply-clause-asked : goal.returns-in-Ok-send_reply-clause-asked
returns-in-Ok-send_reply-clause-asked g c = record {
  used = Asked c.now-moment.result (Ok (c.in-Ok.answer.status, c.in-Ok.answer.body.items));
  fits = c.now-moment.ensures;
  calls = (c.answer.new.self, c.in-Ok.ensures.steps, refl);
  writes = (
    refl,
    subst (Appends (g.W.Sink.contents c.args.sink.now) (g.W.Sink.contents c.send_reply.new.sink))
        (answer_text c.status.result (status_of c.in-Ok.answer.status) c.type_for.result.now
        (kind_for (g.D.Desk.content_type c.args.desk.now) c.in-Ok.answer.body.items) c.deref-in-Ok.result.now
        c.in-Ok.answer.body.items c.len.result c.args.closes c.status.ensures
        (c.type_for.ensures
        ∙ ap (λ (k : List ℕ). kind_for k c.deref.result.now) (c.content_type.ensures ∙ c.in-Ok.ensures.content_type)
        ∙ ap (kind_for (g.D.Desk.content_type c.args.desk.now)) c.deref.ensures.value)
        c.deref-in-Ok.ensures.value (omega (arith, c.len.ensures, c.in-Ok.answer.body.ok.0)))
        (rw head_bytes-lines at c.in-Ok-send_reply.ensures.sends),
  );
}

pub returns-in-Ok-clause-asked : goal.returns-in-Ok-clause-asked
returns-in-Ok-clause-asked g c = record {
  used = Asked c.now-moment.result (Ok (c.in-Ok.answer.status, c.in-Ok.answer.body.items));
  fits = c.now-moment.ensures;
  calls = (c.answer.new.self, c.in-Ok.ensures.steps, refl);
  writes =
      subst (AppendsPart (g.W.Sink.contents c.args.sink.now) (g.W.Sink.contents c.send_reply.new.sink))
      (answer_text c.status.result (status_of c.in-Ok.answer.status) c.type_for.result.now
      (kind_for (g.D.Desk.content_type c.args.desk.now) c.in-Ok.answer.body.items) c.deref-in-Ok.result.now
      c.in-Ok.answer.body.items c.len.result c.args.closes c.status.ensures
      (c.type_for.ensures
      ∙ ap (λ (k : List ℕ). kind_for k c.deref.result.now) (c.content_type.ensures ∙ c.in-Ok.ensures.content_type)
      ∙ ap (kind_for (g.D.Desk.content_type c.args.desk.now)) c.deref.ensures.value)
      c.deref-in-Ok.ensures.value (omega (arith, c.len.ensures, c.in-Ok.answer.body.ok.0)))
      (rw head_bytes-lines at c.in-Err-send_reply.ensures.sends);
}

pub returns-in-Ok-send_empty-clause-asked : goal.returns-in-Ok-send_empty-clause-asked
returns-in-Ok-send_empty-clause-asked g c = record {
  used = Asked c.now-moment.result (Err c.in-Err.off);
  fits = c.now-moment.ensures;
  calls = (c.answer.new.self, c.in-Err.ensures.steps, refl);
  writes = (refl, c.in-Ok-send_empty.ensures.sends);
}

pub returns-clause-asked : goal.returns-clause-asked
returns-clause-asked g c = record {
  used = Asked c.now-moment.result (Err c.in-Err.off);
  fits = c.now-moment.ensures;
  calls = (c.answer.new.self, c.in-Err.ensures.steps, refl);
  writes = c.in-Err-send_empty.ensures.sends;
}
