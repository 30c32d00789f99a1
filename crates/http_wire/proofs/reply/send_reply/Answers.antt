use Rattle.std.proofs.Common.{◌++◌, List, ℕ, ap, subst, ◌∙◌}
use Rattle.http_wire.specs.Sending.{Sends}
use Rattle.http_wire.proofs.ReplyLemmas.{head_bytes-parts}
use Rattle.http_wire.proofs.reply.send_reply.Goals as goal

pub returns-clause-sends : goal.returns-clause-sends
returns-clause-sends g c =
    subst (λ (text : List ℕ). Sends (g.W.Sink.contents c.args.sink.now) (g.W.Sink.contents c.send_parts.new.sink) text c.send_parts.result)
    (head_bytes-parts c.args.head.now c.as_bytes.result.now c.as_bytes-2.result.now c.as_bytes-3.result.now c.as_bytes-4.result.now
    c.as_bytes-5.result.now c.as_bytes-size.result.now c.as_bytes-6.result.now c.args.body.now
    (c.as_bytes.ensures.value ∙ c.line.ensures)
    (ap (λ (t : List ℕ). t ++ (c.as_bytes-3.result.now ++ c.as_bytes-4.result.now)) c.as_bytes-2.ensures.value
    ∙ ap (λ (t : List ℕ). c.type_fields-kind.result.0.now ++ (t ++ c.as_bytes-4.result.now)) c.as_bytes-3.ensures.value
    ∙ ap (λ (t : List ℕ). c.type_fields-kind.result.0.now ++ (c.type_fields-kind.result.1.now ++ t)) c.as_bytes-4.ensures.value
    ∙ c.type_fields-kind.ensures)
    (c.as_bytes-5.ensures.value ∙ c.allow_field.ensures)
    (c.as_bytes-size.ensures.value ∙ c.format.ensures.text)
    (c.as_bytes-6.ensures.value ∙ c.last_field.ensures))
    c.send_parts.ensures.sends
