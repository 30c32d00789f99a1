use Rattle.std.proofs.Common.{arith}
use Rattle.std.proofs.lemmas.Grind.{common_steps}
use Rattle.http_ports.specs.Speech.{speech_at}
use Rattle.http_ports.specs.Steps.{IsStep}
use Rattle.http_ports.specs.Traffic.{timing}
use Rattle.http_ports.proofs.StepLemmas.{Serves-at_same, asked_then, fits_later, stays_open}
use Rattle.http_ports.proofs.serving.advance.Goals as goal

pub returns-in-Made-clause-serves : goal.returns-in-Made-clause-serves
returns-in-Made-clause-serves g c =
    let (calls, leads, goes_on) = c.go_on.ensures.calls in
    let noted = rw c.waiting.ensures at c.timestamp-seconds.ensures.noted in
    asked_then (speech_at (g.P.Port.stopped c.args.port.now) g.E.Protocol.pending g.E.Protocol.phase g.E.Protocol.is_lost (g.E.Protocol.so_far c.args.protocol.now) (g.D.Desk.path c.args.desk.now) (g.D.Desk.content_type c.args.desk.now)) g.D.Desk.steps
    (IsStep c.push-in-Made.result) c.args.slot c.timestamp-seconds.result (g.E.Protocol.waiting c.args.conn.now) (g.P.Port.slots c.args.port.now) (g.P.Port.slots c.timestamp-seconds.new.self)
    (g.P.Port.slots c.push-in-Made.new.port c.args.slot)
    c.args.conn.now c.go_on.new.conn c.push-in-Made.new.conn c.args.desk.now c.go_on.new.desk c.go_on.new.desk calls
    noted leads
    (λ received sent timestamps made (clock, so_far).
    (fits_later _ timestamps _ clock c.timestamp-seconds.ensures.clock, goes_on received sent timestamps made so_far))
    (Serves-at_same g.E.Protocol.pending g.E.Protocol.phase g.E.Protocol.is_lost (g.E.Protocol.so_far c.args.protocol.now)
    g.D.Desk.steps (IsStep c.push-in-Made.result) (g.P.Port.slots c.timestamp-seconds.new.self c.args.slot)
    (g.P.Port.slots c.push-in-Made.new.port c.args.slot) c.go_on.new.conn c.push-in-Made.new.conn c.go_on.new.desk c.go_on.new.desk
    _ _ _ _ _ _ c.timestamp-seconds.ensures.stopped c.go_on.ensures.path c.go_on.ensures.content_type c.push-in-Made.ensures.serves)

pub returns-in-Waits-clause-serves : goal.returns-in-Waits-clause-serves
returns-in-Waits-clause-serves g c =
    let (calls, leads, goes_on) = c.go_on.ensures.calls in
    let noted = rw c.waiting.ensures at c.timestamp-seconds.ensures.noted in
    asked_then (speech_at (g.P.Port.stopped c.args.port.now) g.E.Protocol.pending g.E.Protocol.phase g.E.Protocol.is_lost (g.E.Protocol.so_far c.args.protocol.now) (g.D.Desk.path c.args.desk.now) (g.D.Desk.content_type c.args.desk.now)) g.D.Desk.steps
    (IsStep c.pull.result) c.args.slot c.timestamp-seconds.result (g.E.Protocol.waiting c.args.conn.now) (g.P.Port.slots c.args.port.now) (g.P.Port.slots c.timestamp-seconds.new.self)
    (g.P.Port.slots c.pull.new.port c.args.slot)
    c.args.conn.now c.go_on.new.conn c.pull.new.conn c.args.desk.now c.go_on.new.desk c.go_on.new.desk calls
    noted leads
    (λ received sent timestamps made (clock, so_far).
    (fits_later _ timestamps _ clock c.timestamp-seconds.ensures.clock, goes_on received sent timestamps made so_far))
    (Serves-at_same g.E.Protocol.pending g.E.Protocol.phase g.E.Protocol.is_lost (g.E.Protocol.so_far c.args.protocol.now)
    g.D.Desk.steps (IsStep c.pull.result) (g.P.Port.slots c.timestamp-seconds.new.self c.args.slot)
    (g.P.Port.slots c.pull.new.port c.args.slot) c.go_on.new.conn c.pull.new.conn c.go_on.new.desk c.go_on.new.desk
    _ _ _ _ _ _ c.timestamp-seconds.ensures.stopped c.go_on.ensures.path c.go_on.ensures.content_type c.pull.ensures.serves)

pub push-requires-in-Made-clause-live : goal.push-requires-in-Made-clause-live
push-requires-in-Made-clause-live g c =
    stays_open c.args.slot (timing c.timestamp-seconds.result _) c.timestamp-seconds.ensures.noted c.requires.live

pub pull-requires-clause-live : goal.pull-requires-clause-live
pull-requires-clause-live g c =
    stays_open c.args.slot (timing c.timestamp-seconds.result _) c.timestamp-seconds.ensures.noted c.requires.live

pub returns-in-Over-clause-live : goal.returns-in-Over-clause-live
returns-in-Over-clause-live g c =
    stays_open c.args.slot (timing c.timestamp-seconds.result _) c.timestamp-seconds.ensures.noted c.requires.live

pub go_on-requires-clause-sent : goal.go_on-requires-clause-sent
go_on-requires-clause-sent g c = grind (arith, common_steps)

pub returns-in-Over-clause-serves : goal.returns-in-Over-clause-serves
returns-in-Over-clause-serves g c = grind (arith, common_steps)
