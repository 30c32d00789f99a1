use Rattle.std.proofs.Common.{◌≡◌, ◌∙◌, refl, rules, subst, ap, arith}
use Rattle.std.specs.Prelude.{IfSome}
use Rattle.http_ports.specs.Loops.{all_rest, counts_of, kept_at, rest_but}
use Rattle.http_ports.specs.Speech.{speech_at}
use Rattle.http_ports.specs.Traffic.{Slot, no_traffic}
use Rattle.http_ports.proofs.WorkLemmas.{capacity_of, Works-accepted, Works-counted, Works-done, Works-expired, Works-kept, Works-reported}
use Rattle.http_ports.proofs.looping.serve_next.Goals as goal

pub serve_slot-requires-clause-live : goal.serve_slot-requires-clause-live
serve_slot-requires-clause-live g c = (no_traffic, ap (λ (slot : Slot). slot.current) c.in-Accepted.ensures.reports.2)

pub returns-in-Accepted-clause-over : goal.returns-in-Accepted-clause-over
returns-in-Accepted-clause-over g c = search rules

pub returns-in-Accepted-clause-works : goal.returns-in-Accepted-clause-works
returns-in-Accepted-clause-works g c = λ start lost works.
    let (within, free, opened, elsewhere) = c.in-Accepted.ensures.reports in
    (rw c.in-Accepted.ensures.stopped at c.serve_slot.ensures.works) start lost
    (Works-counted (speech_at (g.P.Port.stopped c.args.port.now) g.E.Protocol.pending g.E.Protocol.phase g.E.Protocol.is_lost (g.E.Protocol.so_far c.args.protocol.now)
    (g.D.Desk.path c.args.desk.now) (g.D.Desk.content_type c.args.desk.now)) g.D.Desk.steps
    start (rest_but c.in-Accepted.slot) c.args.desk.now (g.P.Port.slots c.wait.new.self) (kept_at c.swap.new.items)
    (g.P.Port.terms c.args.port.now).capacity (g.P.Port.terms c.wait.new.self).capacity (g.P.Port.accepted c.wait.new.self) _ lost _
    (ap capacity_of c.in-Accepted.ensures.terms) refl refl
    (Works-accepted (speech_at (g.P.Port.stopped c.args.port.now) g.E.Protocol.pending g.E.Protocol.phase g.E.Protocol.is_lost (g.E.Protocol.so_far c.args.protocol.now)
    (g.D.Desk.path c.args.desk.now) (g.D.Desk.content_type c.args.desk.now)) g.D.Desk.steps
    start c.in-Accepted.slot c.args.desk.now (g.P.Port.slots c.args.port.now) (g.P.Port.slots c.wait.new.self)
    (kept_at c.args.conns.now) (kept_at c.swap.new.items) c.open.result (g.P.Port.terms c.args.port.now).capacity (g.P.Port.accepted c.args.port.now) (g.P.Port.accepted c.wait.new.self) lost
    works within c.in-Accepted.ensures.accepted free opened elsewhere c.swap.ensures.put c.swap.ensures.elsewhere
    (tt, c.open.ensures.so_far _ _)))

pub returns-in-Ready-clause-works : goal.returns-in-Ready-clause-works
returns-in-Ready-clause-works g c = λ start lost works.
    let (within, live, changes) = c.in-Ready.ensures.reports in
    (rw c.in-Ready.ensures.stopped at c.serve_slot-in-Ready.ensures.works) start lost
    (Works-counted (speech_at (g.P.Port.stopped c.args.port.now) g.E.Protocol.pending g.E.Protocol.phase g.E.Protocol.is_lost (g.E.Protocol.so_far c.args.protocol.now)
    (g.D.Desk.path c.args.desk.now) (g.D.Desk.content_type c.args.desk.now)) g.D.Desk.steps
    start (rest_but c.in-Ready.slot) c.args.desk.now (g.P.Port.slots c.wait.new.self) (kept_at c.args.conns.now)
    (g.P.Port.terms c.args.port.now).capacity (g.P.Port.terms c.wait.new.self).capacity (g.P.Port.accepted c.args.port.now) (g.P.Port.accepted c.wait.new.self) lost _
    (ap capacity_of c.in-Ready.ensures.terms) (c.in-Ready.ensures.accepted ∙ omega arith) refl
    (Works-reported (speech_at (g.P.Port.stopped c.args.port.now) g.E.Protocol.pending g.E.Protocol.phase g.E.Protocol.is_lost (g.E.Protocol.so_far c.args.protocol.now)
    (g.D.Desk.path c.args.desk.now) (g.D.Desk.content_type c.args.desk.now)) g.D.Desk.steps
    start c.in-Ready.slot c.args.desk.now (g.P.Port.slots c.args.port.now) (g.P.Port.slots c.wait.new.self)
    (kept_at c.args.conns.now) (counts_of (g.P.Port.terms c.args.port.now).capacity (g.P.Port.accepted c.args.port.now) lost) works live changes))

pub returns-in-Expired-clause-works : goal.returns-in-Expired-clause-works
returns-in-Expired-clause-works g c = λ start lost works.
    let (within, (traffic, live, waiting), changes) = c.in-Expired.ensures.reports in
    let (conn, kept) =
    Works-kept (speech_at (g.P.Port.stopped c.args.port.now) g.E.Protocol.pending g.E.Protocol.phase g.E.Protocol.is_lost (g.E.Protocol.so_far c.args.protocol.now)
    (g.D.Desk.path c.args.desk.now) (g.D.Desk.content_type c.args.desk.now)) g.D.Desk.steps
    start all_rest c.in-Expired.slot c.args.desk.now (g.P.Port.slots c.args.port.now) (kept_at c.args.conns.now)
    (counts_of (g.P.Port.terms c.args.port.now).capacity (g.P.Port.accepted c.args.port.now) lost) works (traffic, live) in
    Works-counted (speech_at (g.P.Port.stopped c.args.port.now) g.E.Protocol.pending g.E.Protocol.phase g.E.Protocol.is_lost (g.E.Protocol.so_far c.args.protocol.now)
    (g.D.Desk.path c.args.desk.now) (g.D.Desk.content_type c.args.desk.now)) g.D.Desk.steps
    start all_rest c.args.desk.now (g.P.Port.slots c.close_slot.new.port) (kept_at c.close_slot.new.conns)
    (g.P.Port.terms c.args.port.now).capacity (g.P.Port.terms c.close_slot.new.port).capacity (g.P.Port.accepted c.args.port.now) (g.P.Port.accepted c.close_slot.new.port) _ _
    (ap capacity_of (c.close_slot.ensures.terms ∙ c.in-Expired.ensures.terms))
    (c.close_slot.ensures.accepted ∙ c.in-Expired.ensures.accepted ∙ omega arith) refl
    (Works-expired (speech_at (g.P.Port.stopped c.args.port.now) g.E.Protocol.pending g.E.Protocol.phase g.E.Protocol.is_lost (g.E.Protocol.so_far c.args.protocol.now)
    (g.D.Desk.path c.args.desk.now) (g.D.Desk.content_type c.args.desk.now)) g.D.Desk.steps
    start c.in-Expired.slot c.args.desk.now (g.P.Port.slots c.args.port.now) (g.P.Port.slots c.wait.new.self)
    (g.P.Port.slots c.close_slot.new.port) (kept_at c.args.conns.now) (kept_at c.close_slot.new.conns) traffic conn
    c.close_slot.result (g.P.Port.terms c.args.port.now).capacity (g.P.Port.accepted c.args.port.now) lost works within kept live waiting changes c.close_slot.ensures.closes
    (subst (λ kept_one. IfSome kept_one (λ some. c.close_slot.result ≡ g.E.Protocol.is_lost some)) kept c.close_slot.ensures.lost)
    c.close_slot.ensures.free c.close_slot.ensures.elsewhere)

pub returns-in-Done-clause-works : goal.returns-in-Done-clause-works
returns-in-Done-clause-works g c = λ start lost works.
    let (free, same) = c.in-Done.ensures.reports in
    Works-done (speech_at (g.P.Port.stopped c.args.port.now) g.E.Protocol.pending g.E.Protocol.phase g.E.Protocol.is_lost (g.E.Protocol.so_far c.args.protocol.now)
    (g.D.Desk.path c.args.desk.now) (g.D.Desk.content_type c.args.desk.now)) g.D.Desk.steps
    start c.args.desk.now (g.P.Port.slots c.args.port.now) (g.P.Port.slots c.wait.new.self) (kept_at c.args.conns.now)
    (counts_of (g.P.Port.terms c.wait.new.self).capacity (g.P.Port.accepted c.wait.new.self) lost)
    (Works-counted (speech_at (g.P.Port.stopped c.args.port.now) g.E.Protocol.pending g.E.Protocol.phase g.E.Protocol.is_lost (g.E.Protocol.so_far c.args.protocol.now)
    (g.D.Desk.path c.args.desk.now) (g.D.Desk.content_type c.args.desk.now)) g.D.Desk.steps
    start all_rest c.args.desk.now (g.P.Port.slots c.args.port.now) (kept_at c.args.conns.now) (g.P.Port.terms c.args.port.now).capacity
    (g.P.Port.terms c.wait.new.self).capacity (g.P.Port.accepted c.args.port.now) (g.P.Port.accepted c.wait.new.self) lost lost
    (ap capacity_of c.in-Done.ensures.terms) (c.in-Done.ensures.accepted ∙ omega arith) refl works)
    free same
