use Rattle.std.proofs.Common.{refl, inl, inr, take}
use Rattle.http_ports.specs.Loops.{IsResting}
use Rattle.http_ports.specs.Ports.{receiving}
use Rattle.http_ports.specs.Speech.{speech_at}
use Rattle.http_ports.specs.Steps.{IsEnding, IsPassed}
use Rattle.http_ports.specs.Traffic.{marked}
use Rattle.http_ports.specs.declared.last.Last.TheVariants.{InputEnded, ReadFailed, WaitsToRead}
use Rattle.http_ports.proofs.StepLemmas.{changed, has_passed, stays_open}
use Rattle.http_ports.proofs.serving.pull.Goals as goal

pub returns-in-Bytes-clause-serves : goal.returns-in-Bytes-clause-serves
returns-in-Bytes-clause-serves g c =
    changed (speech_at (g.P.Port.stopped c.args.port.now) g.E.Protocol.pending g.E.Protocol.phase g.E.Protocol.is_lost (g.E.Protocol.so_far c.args.protocol.now) (g.D.Desk.path c.args.desk.now) (g.D.Desk.content_type c.args.desk.now)) g.D.Desk.steps
    IsPassed c.args.slot (receiving (take c.in-Bytes.count c.read.new.into)) (g.P.Port.slots c.args.port.now)
    (g.P.Port.slots c.read.new.self) c.args.conn.now c.take.new.conn c.args.desk.now c.in-Bytes.ensures.reads.2
    (λ traffic made (clock, so_far). ((clock, c.take.ensures.so_far _ _ _ _ _ _ so_far), refl))

pub returns-in-Bytes-clause-live : goal.returns-in-Bytes-clause-live
returns-in-Bytes-clause-live g c =
    stays_open c.args.slot (receiving (take c.in-Bytes.count c.read.new.into)) c.in-Bytes.ensures.reads.2 c.requires.live

pub returns-in-Bytes-clause-passing : goal.returns-in-Bytes-clause-passing
returns-in-Bytes-clause-passing g c =
    has_passed c.args.slot (receiving (take c.in-Bytes.count c.read.new.into)) (λ traffic. refl)
    c.in-Bytes.ensures.reads.2 c.requires.live

pub returns-in-Nothing-clause-serves : goal.returns-in-Nothing-clause-serves
returns-in-Nothing-clause-serves g c =
    changed (speech_at (g.P.Port.stopped c.args.port.now) g.E.Protocol.pending g.E.Protocol.phase g.E.Protocol.is_lost (g.E.Protocol.so_far c.args.protocol.now) (g.D.Desk.path c.args.desk.now) (g.D.Desk.content_type c.args.desk.now)) g.D.Desk.steps
    IsResting c.args.slot (marked WaitsToRead) (g.P.Port.slots c.args.port.now) (g.P.Port.slots c.read.new.self)
    c.args.conn.now c.args.conn.now c.args.desk.now c.in-Nothing.ensures.reads
    (λ traffic made so_far. (so_far, inl (refl, c.requires.sent, c.requires.waits)))

pub returns-in-End-clause-serves : goal.returns-in-End-clause-serves
returns-in-End-clause-serves g c =
    changed (speech_at (g.P.Port.stopped c.args.port.now) g.E.Protocol.pending g.E.Protocol.phase g.E.Protocol.is_lost (g.E.Protocol.so_far c.args.protocol.now) (g.D.Desk.path c.args.desk.now) (g.D.Desk.content_type c.args.desk.now)) g.D.Desk.steps
    IsEnding c.args.slot (marked InputEnded) (g.P.Port.slots c.args.port.now) (g.P.Port.slots c.read.new.self)
    c.args.conn.now c.args.conn.now c.args.desk.now c.in-End.ensures.reads
    (λ traffic made so_far. (so_far, inr (inl (c.requires.sent, c.requires.waits, inl refl))))

pub returns-in-Failure-clause-serves : goal.returns-in-Failure-clause-serves
returns-in-Failure-clause-serves g c =
    changed (speech_at (g.P.Port.stopped c.args.port.now) g.E.Protocol.pending g.E.Protocol.phase g.E.Protocol.is_lost (g.E.Protocol.so_far c.args.protocol.now) (g.D.Desk.path c.args.desk.now) (g.D.Desk.content_type c.args.desk.now)) g.D.Desk.steps
    IsEnding c.args.slot (marked ReadFailed) (g.P.Port.slots c.args.port.now) (g.P.Port.slots c.read.new.self)
    c.args.conn.now c.args.conn.now c.args.desk.now c.in-Failure.ensures.reads
    (λ traffic made so_far. (so_far, inr (inl (c.requires.sent, c.requires.waits, inr (inl refl)))))
