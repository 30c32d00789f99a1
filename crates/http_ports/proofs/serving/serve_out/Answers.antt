use Rattle.http_ports.specs.Speech.{speech_at}
use Rattle.http_ports.proofs.StepLemmas.{ends, yields}
use Rattle.http_ports.proofs.serving.serve_out.Goals as goal

pub returns-in-Passed-clause-serves : goal.returns-in-Passed-clause-serves
returns-in-Passed-clause-serves g c =
    yields (speech_at (g.P.Port.stopped c.args.port.now) g.E.Protocol.pending g.E.Protocol.phase g.E.Protocol.is_lost (g.E.Protocol.so_far c.args.protocol.now) (g.D.Desk.path c.args.desk.now) (g.D.Desk.content_type c.args.desk.now)) g.D.Desk.steps
    c.args.slot (g.P.Port.slots c.args.port.now c.args.slot) (g.P.Port.slots c.advance_far.new.port)
    (g.P.Port.slots c.again.new.self) c.args.conn c.advance_far.new.conn c.args.desk.now c.advance_far.new.desk
    c.in-Passed.ensures.serves c.again.ensures.yields

pub returns-in-Over-clause-serves : goal.returns-in-Over-clause-serves
returns-in-Over-clause-serves g c =
    ends (speech_at (g.P.Port.stopped c.args.port.now) g.E.Protocol.pending g.E.Protocol.phase g.E.Protocol.is_lost (g.E.Protocol.so_far c.args.protocol.now) (g.D.Desk.path c.args.desk.now) (g.D.Desk.content_type c.args.desk.now)) g.D.Desk.steps
    c.args.slot (g.P.Port.slots c.args.port.now c.args.slot) (g.P.Port.slots c.advance_far.new.port)
    (g.P.Port.slots c.close.new.self) c.args.conn c.advance_far.new.conn c.args.desk.now c.advance_far.new.desk
    c.end.result c.in-Over.ensures.serves c.close.ensures.closes c.end.ensures
