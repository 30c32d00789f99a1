use Rattle.std.proofs.Common.{◌≡◌, ◌+◌, ◌-◌, suc, Some, arith, subst, sym}
use Rattle.std.proofs.lemmas.Result.{on_ok_weaker}
use Rattle.serde.specs.Event.{Logs, seq_begins}
use Rattle.omaha_json.proofs.SendingLemmas.{SendsStatuses, items_len-statuses}
use Rattle.omaha_json.proofs.reply_writer.send_acknowledgements.Goals as goal

pub loop-event-preserved : goal.loop-event-preserved
loop-event-preserved g c =
    let left : c.args.events - c.loop-event._event ≡ suc (c.args.events - (c.loop-event._event + 1)) = omega (arith, c.loop-event-test.true) in
    λ end rest. c.loop-event.invariant end
    (subst (λ count. SendsStatuses count (g.S.Serializer.written c.loop-event.out) end) (sym left)
    (g.S.Serializer.written c.send_status.new.out, c.in_ok-send_status.ensures, rest))

pub returns : goal.returns
returns g c =
    let written = g.S.Serializer.written in
    let first = written c.begin_seq.new.self in
    let end = written c.end_seq.new.self in
    let none : c.args.events - c.loop-event._event ≡ 0 = omega (arith, c.loop-event-test.false) in
    on_ok_weaker c.end_seq.result (λ ended. (
      first,
      subst (λ count. Logs (written c.args.out.now) first (seq_begins (Some count))) (sym (items_len-statuses c.args.events)) c.in_ok-begin_seq.ensures,
      c.loop-event.invariant end (subst (λ count. SendsStatuses count (written c.loop-event.out) end) (sym none) ended),
    )) c.end_seq.ensures
