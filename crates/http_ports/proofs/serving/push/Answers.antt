use Rattle.std.proofs.Common.{refl, inl, inr, take}
use Rattle.http_ports.specs.Loops.{IsResting}
use Rattle.http_ports.specs.Ports.{sending}
use Rattle.http_ports.specs.Speech.{speech_at}
use Rattle.http_ports.specs.Steps.{IsEnding, IsPassed}
use Rattle.http_ports.specs.Traffic.{marked}
use Rattle.http_ports.specs.declared.last.Last.TheVariants.{WaitsToWrite, WriteFailed}
use Rattle.http_ports.proofs.StepLemmas.{changed, has_passed, stays_open}
use Rattle.http_ports.proofs.serving.push.Goals as goal

pub returns-in-Bytes-clause-serves : goal.returns-in-Bytes-clause-serves
returns-in-Bytes-clause-serves g c =
    changed (speech_at (g.P.Port.stopped c.args.port.now) g.E.Protocol.pending g.E.Protocol.phase g.E.Protocol.is_lost (g.E.Protocol.so_far c.args.protocol.now) (g.D.Desk.path c.args.desk.now) (g.D.Desk.content_type c.args.desk.now)) g.D.Desk.steps
    IsPassed c.args.slot (sending (take c.in-Bytes.count c.pending.result.now)) (g.P.Port.slots c.args.port.now)
    (g.P.Port.slots c.write.new.self) c.args.conn.now c.sent.new.conn c.args.desk.now c.in-Bytes.ensures.writes.2
    (λ traffic made (clock, so_far). ((clock, rw c.pending.ensures (c.sent.ensures.so_far _ _ _ _ _ _ so_far)), refl))

pub returns-in-Bytes-clause-live : goal.returns-in-Bytes-clause-live
returns-in-Bytes-clause-live g c =
    stays_open c.args.slot (sending (take c.in-Bytes.count c.pending.result.now)) c.in-Bytes.ensures.writes.2 c.requires.live

pub returns-in-Bytes-clause-passing : goal.returns-in-Bytes-clause-passing
returns-in-Bytes-clause-passing g c =
    has_passed c.args.slot (sending (take c.in-Bytes.count c.pending.result.now)) (λ traffic. refl)
    c.in-Bytes.ensures.writes.2 c.requires.live

pub returns-in-Nothing-clause-serves : goal.returns-in-Nothing-clause-serves
returns-in-Nothing-clause-serves g c =
    changed (speech_at (g.P.Port.stopped c.args.port.now) g.E.Protocol.pending g.E.Protocol.phase g.E.Protocol.is_lost (g.E.Protocol.so_far c.args.protocol.now) (g.D.Desk.path c.args.desk.now) (g.D.Desk.content_type c.args.desk.now)) g.D.Desk.steps
    IsResting c.args.slot (marked WaitsToWrite) (g.P.Port.slots c.args.port.now) (g.P.Port.slots c.write.new.self)
    c.args.conn.now c.args.conn.now c.args.desk.now c.in-Nothing.ensures.writes
    (λ traffic made so_far. (so_far, inr (inl (refl, c.requires.some))))

pub returns-in-Failure-clause-serves : goal.returns-in-Failure-clause-serves
returns-in-Failure-clause-serves g c =
    changed (speech_at (g.P.Port.stopped c.args.port.now) g.E.Protocol.pending g.E.Protocol.phase g.E.Protocol.is_lost (g.E.Protocol.so_far c.args.protocol.now) (g.D.Desk.path c.args.desk.now) (g.D.Desk.content_type c.args.desk.now)) g.D.Desk.steps
    IsEnding c.args.slot (marked WriteFailed) (g.P.Port.slots c.args.port.now) (g.P.Port.slots c.write.new.self)
    c.args.conn.now c.args.conn.now c.args.desk.now c.in-Failure.ensures.writes
    (λ traffic made so_far. (so_far, inr (inr (c.requires.some, inl refl))))
