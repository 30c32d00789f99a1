use Rattle.std.proofs.Common.{◌∙◌, ◌+◌, ℕ, List, Option, refl, ap, arith}
use Rattle.http_ports.specs.Loops.{HasServed, Works, all_rest, counts_of, kept_at}
use Rattle.http_ports.specs.Speech.{one_if, speech_at}
use Rattle.http_ports.proofs.StepLemmas.{at_same}
use Rattle.http_ports.proofs.WorkLemmas.{Works-begun}
use Rattle.http_ports.proofs.looping.run.Goals as goal

pub loop-init : goal.loop-init
loop-init g c = (
  0,
  Works-begun (speech_at (g.P.Port.stopped c.args.port.now) g.E.Protocol.pending g.E.Protocol.phase g.E.Protocol.is_lost (g.E.Protocol.so_far c.args.protocol.now)
      (g.D.Desk.path c.args.desk.now) (g.D.Desk.content_type c.args.desk.now)) g.D.Desk.steps
      c.args.desk.now (g.P.Port.slots c.args.port.now) (kept_at c.args.conns.now)
      (counts_of (g.P.Port.terms c.args.port.now).capacity (g.P.Port.accepted c.args.port.now) 0)
      c.requires.fresh c.requires.empty c.requires.none refl,
  omega arith,
  c.requires.many,
  refl,
  refl,
  refl,
  refl,
  refl,
)

pub loop-preserved-in-Some-true : goal.loop-preserved-in-Some-true
loop-preserved-in-Some-true g c =
    let (lost, works, is, many, terms, stopped, own, path, kind) = c.loop.invariant in (
      lost + one_if c.in-Some-true.field-0,
      at_same
          (λ (s : Option ℕ) (p t : List ℕ). Works (speech_at s g.E.Protocol.pending g.E.Protocol.phase g.E.Protocol.is_lost (g.E.Protocol.so_far c.args.protocol.now) p t)
          all_rest g.D.Desk.steps c.args.desk.now c.loop.desk (g.P.Port.slots c.loop.port) (kept_at c.loop.conns)
          (counts_of (g.P.Port.terms c.loop.port).capacity (g.P.Port.accepted c.loop.port) lost)
          → Works (speech_at s g.E.Protocol.pending g.E.Protocol.phase g.E.Protocol.is_lost (g.E.Protocol.so_far c.args.protocol.now) p t)
          all_rest g.D.Desk.steps c.args.desk.now c.serve_next.new.desk (g.P.Port.slots c.serve_next.new.port) (kept_at c.serve_next.new.conns)
          (counts_of (g.P.Port.terms c.serve_next.new.port).capacity (g.P.Port.accepted c.serve_next.new.port) (lost + one_if c.in-Some-true.field-0)))
          _ _ _ _ _ _ stopped path kind (c.in-Some-true.ensures.works c.args.desk.now lost) works,
      omega (arith, is, c.saturating_add-lost.ensures, ap one_if c.in-Some-true.field-0-test),
      c.in-Some-true.ensures.many,
      c.in-Some-true.ensures.terms ∙ terms,
      c.in-Some-true.ensures.stopped ∙ stopped,
      c.in-Some-true.ensures.own ∙ own,
      c.in-Some-true.ensures.path ∙ path,
      c.in-Some-true.ensures.content_type ∙ kind,
    )

pub loop-preserved : goal.loop-preserved
loop-preserved g c =
    let (lost, works, is, many, terms, stopped, own, path, kind) = c.loop.invariant in (
      lost + one_if c.in-Some-false.field-0,
      at_same
          (λ (s : Option ℕ) (p t : List ℕ). Works (speech_at s g.E.Protocol.pending g.E.Protocol.phase g.E.Protocol.is_lost (g.E.Protocol.so_far c.args.protocol.now) p t)
          all_rest g.D.Desk.steps c.args.desk.now c.loop.desk (g.P.Port.slots c.loop.port) (kept_at c.loop.conns)
          (counts_of (g.P.Port.terms c.loop.port).capacity (g.P.Port.accepted c.loop.port) lost)
          → Works (speech_at s g.E.Protocol.pending g.E.Protocol.phase g.E.Protocol.is_lost (g.E.Protocol.so_far c.args.protocol.now) p t)
          all_rest g.D.Desk.steps c.args.desk.now c.serve_next.new.desk (g.P.Port.slots c.serve_next.new.port) (kept_at c.serve_next.new.conns)
          (counts_of (g.P.Port.terms c.serve_next.new.port).capacity (g.P.Port.accepted c.serve_next.new.port) (lost + one_if c.in-Some-false.field-0)))
          _ _ _ _ _ _ stopped path kind (c.in-Some-false.ensures.works c.args.desk.now lost) works,
      omega (arith, is, ap one_if c.in-Some-false.field-0-test),
      c.in-Some-false.ensures.many,
      c.in-Some-false.ensures.terms ∙ terms,
      c.in-Some-false.ensures.stopped ∙ stopped,
      c.in-Some-false.ensures.own ∙ own,
      c.in-Some-false.ensures.path ∙ path,
      c.in-Some-false.ensures.content_type ∙ kind,
    )

pub returns-in-None-serve_next-clause-served : goal.returns-in-None-serve_next-clause-served
returns-in-None-serve_next-clause-served g c =
    let (lost, works, is, many, terms, stopped, own, path, kind) = c.loop.invariant in (
      lost,
      is,
      at_same
          (λ (s : Option ℕ) (p t : List ℕ). Works (speech_at s g.E.Protocol.pending g.E.Protocol.phase g.E.Protocol.is_lost (g.E.Protocol.so_far c.args.protocol.now) p t)
          all_rest g.D.Desk.steps c.args.desk.now c.loop.desk (g.P.Port.slots c.loop.port) (kept_at c.loop.conns)
          (counts_of (g.P.Port.terms c.loop.port).capacity (g.P.Port.accepted c.loop.port) lost)
          → HasServed (speech_at s g.E.Protocol.pending g.E.Protocol.phase g.E.Protocol.is_lost (g.E.Protocol.so_far c.args.protocol.now) p t)
          g.D.Desk.steps c.args.desk.now c.serve_next.new.desk (g.P.Port.slots c.serve_next.new.port)
          (counts_of (g.P.Port.terms c.serve_next.new.port).capacity (g.P.Port.accepted c.serve_next.new.port) lost))
          _ _ _ _ _ _ stopped path kind (c.in-None-serve_next.ensures.works c.args.desk.now lost) works,
    )
