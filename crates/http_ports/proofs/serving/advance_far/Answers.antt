use Rattle.std.proofs.Common.{◌∙◌, refl}
use Rattle.http_ports.specs.Loops.{IsResting}
use Rattle.http_ports.specs.Speech.{speech_at}
use Rattle.http_ports.specs.Steps.{IsEnding, IsPassed, IsStep}
use Rattle.http_ports.proofs.StepLemmas.{Elsewhere-trans, Serves-at_same, and_then, any_left, loosened, unmoved}
use Rattle.http_ports.proofs.serving.advance_far.Goals as goal

pub loop-init : goal.loop-init
loop-init g c = (
  unmoved (speech_at (g.P.Port.stopped c.args.port.now) g.E.Protocol.pending g.E.Protocol.phase g.E.Protocol.is_lost (g.E.Protocol.so_far c.args.protocol.now) (g.D.Desk.path c.args.desk.now) (g.D.Desk.content_type c.args.desk.now)) g.D.Desk.steps
      (g.P.Port.slots c.args.port.now c.args.slot) c.args.conn.now c.args.desk.now,
  c.requires.live,
  λ k other. refl,
  refl,
  refl,
  refl,
  refl,
  refl,
  refl,
)

pub loop-preserved : goal.loop-preserved
loop-preserved g c =
    let (serves, live, elsewhere, accepted, terms, stopped, own, path, kind) = c.loop.invariant in (
      and_then (speech_at (g.P.Port.stopped c.args.port.now) g.E.Protocol.pending g.E.Protocol.phase g.E.Protocol.is_lost (g.E.Protocol.so_far c.args.protocol.now) (g.D.Desk.path c.args.desk.now) (g.D.Desk.content_type c.args.desk.now)) g.D.Desk.steps
          any_left any_left (g.P.Port.slots c.args.port.now c.args.slot) (g.P.Port.slots c.loop.port c.args.slot)
          (g.P.Port.slots c.advance.new.port c.args.slot) c.args.conn.now c.loop.conn c.advance.new.conn c.args.desk.now c.loop.desk
          c.advance.new.desk serves
          (Serves-at_same g.E.Protocol.pending g.E.Protocol.phase g.E.Protocol.is_lost (g.E.Protocol.so_far c.args.protocol.now)
          g.D.Desk.steps any_left (g.P.Port.slots c.loop.port c.args.slot) (g.P.Port.slots c.advance.new.port c.args.slot)
          c.loop.conn c.advance.new.conn c.loop.desk c.advance.new.desk _ _ _ _ _ _ stopped path kind
          (loosened (speech_at (g.P.Port.stopped c.loop.port) g.E.Protocol.pending g.E.Protocol.phase g.E.Protocol.is_lost (g.E.Protocol.so_far c.args.protocol.now) (g.D.Desk.path c.loop.desk) (g.D.Desk.content_type c.loop.desk)) g.D.Desk.steps IsPassed _ _ _ _ _ _ c.in-Passed.ensures.serves)),
      c.in-Passed.ensures.live,
      Elsewhere-trans c.args.slot elsewhere c.in-Passed.ensures.elsewhere,
      c.in-Passed.ensures.accepted ∙ accepted,
      c.in-Passed.ensures.terms ∙ terms,
      c.in-Passed.ensures.stopped ∙ stopped,
      c.in-Passed.ensures.own ∙ own,
      c.in-Passed.ensures.path ∙ path,
      c.in-Passed.ensures.content_type ∙ kind,
    )

pub returns-in-Waits-clause-serves : goal.returns-in-Waits-clause-serves
returns-in-Waits-clause-serves g c =
    let (serves, live, elsewhere, accepted, terms, stopped, own, path, kind) = c.loop.invariant in
    and_then (speech_at (g.P.Port.stopped c.args.port.now) g.E.Protocol.pending g.E.Protocol.phase g.E.Protocol.is_lost (g.E.Protocol.so_far c.args.protocol.now) (g.D.Desk.path c.args.desk.now) (g.D.Desk.content_type c.args.desk.now)) g.D.Desk.steps
    any_left IsResting (g.P.Port.slots c.args.port.now c.args.slot) (g.P.Port.slots c.loop.port c.args.slot)
    (g.P.Port.slots c.advance.new.port c.args.slot) c.args.conn.now c.loop.conn c.advance.new.conn c.args.desk.now c.loop.desk
    c.advance.new.desk serves
    (Serves-at_same g.E.Protocol.pending g.E.Protocol.phase g.E.Protocol.is_lost (g.E.Protocol.so_far c.args.protocol.now)
    g.D.Desk.steps IsResting (g.P.Port.slots c.loop.port c.args.slot) (g.P.Port.slots c.advance.new.port c.args.slot)
    c.loop.conn c.advance.new.conn c.loop.desk c.advance.new.desk _ _ _ _ _ _ stopped path kind c.in-Waits.ensures.serves)

pub returns-in-Over-clause-serves : goal.returns-in-Over-clause-serves
returns-in-Over-clause-serves g c =
    let (serves, live, elsewhere, accepted, terms, stopped, own, path, kind) = c.loop.invariant in
    and_then (speech_at (g.P.Port.stopped c.args.port.now) g.E.Protocol.pending g.E.Protocol.phase g.E.Protocol.is_lost (g.E.Protocol.so_far c.args.protocol.now) (g.D.Desk.path c.args.desk.now) (g.D.Desk.content_type c.args.desk.now)) g.D.Desk.steps
    any_left IsEnding (g.P.Port.slots c.args.port.now c.args.slot) (g.P.Port.slots c.loop.port c.args.slot)
    (g.P.Port.slots c.advance.new.port c.args.slot) c.args.conn.now c.loop.conn c.advance.new.conn c.args.desk.now c.loop.desk
    c.advance.new.desk serves
    (Serves-at_same g.E.Protocol.pending g.E.Protocol.phase g.E.Protocol.is_lost (g.E.Protocol.so_far c.args.protocol.now)
    g.D.Desk.steps IsEnding (g.P.Port.slots c.loop.port c.args.slot) (g.P.Port.slots c.advance.new.port c.args.slot)
    c.loop.conn c.advance.new.conn c.loop.desk c.advance.new.desk _ _ _ _ _ _ stopped path kind c.in-Over.ensures.serves)

pub returns-clause-serves : goal.returns-clause-serves
returns-clause-serves g c =
    let (serves, live, elsewhere, accepted, terms, stopped, own, path, kind) = c.loop.invariant in
    and_then (speech_at (g.P.Port.stopped c.args.port.now) g.E.Protocol.pending g.E.Protocol.phase g.E.Protocol.is_lost (g.E.Protocol.so_far c.args.protocol.now) (g.D.Desk.path c.args.desk.now) (g.D.Desk.content_type c.args.desk.now)) g.D.Desk.steps
    any_left (IsStep c.advance-2.result) (g.P.Port.slots c.args.port.now c.args.slot) (g.P.Port.slots c.loop.port c.args.slot)
    (g.P.Port.slots c.advance-2.new.port c.args.slot) c.args.conn.now c.loop.conn c.advance-2.new.conn c.args.desk.now c.loop.desk
    c.advance-2.new.desk serves
    (Serves-at_same g.E.Protocol.pending g.E.Protocol.phase g.E.Protocol.is_lost (g.E.Protocol.so_far c.args.protocol.now)
    g.D.Desk.steps (IsStep c.advance-2.result) (g.P.Port.slots c.loop.port c.args.slot) (g.P.Port.slots c.advance-2.new.port c.args.slot)
    c.loop.conn c.advance-2.new.conn c.loop.desk c.advance-2.new.desk _ _ _ _ _ _ stopped path kind c.advance-2.ensures.serves)
