use Rattle.std.proofs.Common.{◌-◌}
use Rattle.serde.specs.Event.{Log}
use Rattle.omaha_json.proofs.SendingLemmas.{SendsStatuses}
use Rattle.omaha_json.proofs.reply_writer.send_acknowledgements.Given as goal

-- what ends the others well from here ends them all well from the start
abbrev pub invariant-loop-event : goal.invariant-loop-event
invariant-loop-event g l =
    (end : Log) → SendsStatuses (l.events - l._event) (g.S.Serializer.written l.out) end → SendsStatuses l.events (g.S.Serializer.written l.initial.out) end
