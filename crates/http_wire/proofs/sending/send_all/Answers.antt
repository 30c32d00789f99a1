use Rattle.std.proofs.Common.{sym, subst, take, drop, ◌+◌}
use Rattle.http_wire.specs.Sending.{AppendsPart, joined}
use Rattle.http_wire.proofs.KnownLemmas.{AppendsPart-then, joined-around}
use Rattle.http_wire.proofs.sending.send_all.Goals as goal

pub returns-in-Err-clause-sends : goal.returns-in-Err-clause-sends
returns-in-Err-clause-sends g c =
    let texts = c.args.texts.now in
    let at = c.loop-text.text-index in
    subst (AppendsPart (g.W.Sink.contents c.args.sink.now) (g.W.Sink.contents c.send.new.sink)) (sym (joined-around texts at _ c.loop-text-test.true))
    (AppendsPart-then _ _ _ (joined (take at texts)) _ (joined (drop (at + 1) texts)) c.loop-text.invariant.0 c.in-Err.ensures.sends)
