use Rattle.std.proofs.Common.{◌∙◌, refl, rules, sym, ap, arith}
use Rattle.http_ports.specs.Loops.{all_rest, kept_at}
use Rattle.http_ports.specs.Speech.{speech_at}
use Rattle.http_ports.proofs.WorkLemmas.{capacity_of, Works-counted, Works-ended, Works-resting}
use Rattle.http_ports.proofs.looping.serve_slot.Goals as goal

pub returns-in_default-clause-works : goal.returns-in_default-clause-works
returns-in_default-clause-works g c = search rules

pub returns-in-Ok-clause-works : goal.returns-in-Ok-clause-works
returns-in-Ok-clause-works g c = λ start lost works.
    Works-counted (speech_at (g.P.Port.stopped c.args.port.now) g.E.Protocol.pending g.E.Protocol.phase g.E.Protocol.is_lost (g.E.Protocol.so_far c.args.protocol.now)
    (g.D.Desk.path c.args.desk.now) (g.D.Desk.content_type c.args.desk.now)) g.D.Desk.steps
    start all_rest c.serve_out.new.desk (g.P.Port.slots c.serve_out.new.port) (kept_at c.swap-in-Ok.new.items)
    (g.P.Port.terms c.args.port.now).capacity (g.P.Port.terms c.serve_out.new.port).capacity (g.P.Port.accepted c.args.port.now)
    (g.P.Port.accepted c.serve_out.new.port) lost _ (ap capacity_of c.serve_out.ensures.terms) c.serve_out.ensures.accepted (omega arith)
    (Works-resting (speech_at (g.P.Port.stopped c.args.port.now) g.E.Protocol.pending g.E.Protocol.phase g.E.Protocol.is_lost (g.E.Protocol.so_far c.args.protocol.now)
    (g.D.Desk.path c.args.desk.now) (g.D.Desk.content_type c.args.desk.now)) g.D.Desk.steps
    start c.args.slot c.args.desk.now c.serve_out.new.desk (g.P.Port.slots c.args.port.now) (g.P.Port.slots c.serve_out.new.port)
    (kept_at c.args.conns.now) (kept_at c.swap-in-Ok.new.items) c.in-Some.conn c.in-Ok.left _ works
    (sym c.swap.ensures.took ∙ c.in-Some.is) c.in-Ok.ensures.serves c.in-Ok.ensures.elsewhere c.swap-in-Ok.ensures.put
    (λ k other. c.swap-in-Ok.ensures.elsewhere k other ∙ c.swap.ensures.elsewhere k other))

pub returns-in-Err-clause-works : goal.returns-in-Err-clause-works
returns-in-Err-clause-works g c = λ start lost works.
    Works-counted (speech_at (g.P.Port.stopped c.args.port.now) g.E.Protocol.pending g.E.Protocol.phase g.E.Protocol.is_lost (g.E.Protocol.so_far c.args.protocol.now)
    (g.D.Desk.path c.args.desk.now) (g.D.Desk.content_type c.args.desk.now)) g.D.Desk.steps
    start all_rest c.serve_out.new.desk (g.P.Port.slots c.serve_out.new.port) (kept_at c.swap.new.items)
    (g.P.Port.terms c.args.port.now).capacity (g.P.Port.terms c.serve_out.new.port).capacity (g.P.Port.accepted c.args.port.now)
    (g.P.Port.accepted c.serve_out.new.port) _ _ (ap capacity_of c.serve_out.ensures.terms) c.serve_out.ensures.accepted refl
    (Works-ended (speech_at (g.P.Port.stopped c.args.port.now) g.E.Protocol.pending g.E.Protocol.phase g.E.Protocol.is_lost (g.E.Protocol.so_far c.args.protocol.now)
    (g.D.Desk.path c.args.desk.now) (g.D.Desk.content_type c.args.desk.now)) g.D.Desk.steps
    start c.args.slot c.args.desk.now c.serve_out.new.desk (g.P.Port.slots c.args.port.now) (g.P.Port.slots c.serve_out.new.port)
    (kept_at c.args.conns.now) (kept_at c.swap.new.items) c.in-Some.conn c.in-Err.lost (g.P.Port.terms c.args.port.now).capacity (g.P.Port.accepted c.args.port.now) lost works
    (omega (arith, c.requires.within, c.requires.many)) (sym c.swap.ensures.took ∙ c.in-Some.is) c.in-Err.ensures.serves
    c.in-Err.ensures.elsewhere c.swap.ensures.put c.swap.ensures.elsewhere)
