use Rattle.std.proofs.Common.{◌≡◌}
use Rattle.http_ports.specs.Speech.{speech_at}
use Rattle.http_ports.specs.Steps.{Serves}
use Rattle.http_ports.specs.Traffic.{Elsewhere, IsOpen}
use Rattle.http_ports.proofs.StepLemmas.{any_left}
use Rattle.http_ports.proofs.serving.advance_far.Given as goal

abbrev pub invariant-loop : goal.invariant-loop
invariant-loop g l =
    Serves
    (speech_at (g.P.Port.stopped l.initial.port) g.E.Protocol.pending g.E.Protocol.phase g.E.Protocol.is_lost (g.E.Protocol.so_far l.protocol)
    (g.D.Desk.path l.initial.desk) (g.D.Desk.content_type l.initial.desk))
    g.D.Desk.steps any_left (g.P.Port.slots l.initial.port l.slot) l.initial.conn l.initial.desk
    (g.P.Port.slots l.port l.slot) l.conn l.desk
    × IsOpen (g.P.Port.slots l.port l.slot)
    × Elsewhere l.slot (g.P.Port.slots l.initial.port) (g.P.Port.slots l.port)
    × (g.P.Port.accepted l.port ≡ g.P.Port.accepted l.initial.port)
    × (g.P.Port.terms l.port ≡ g.P.Port.terms l.initial.port)
    × (g.P.Port.stopped l.port ≡ g.P.Port.stopped l.initial.port)
    × (g.P.Port.own l.port ≡ g.P.Port.own l.initial.port)
    × (g.D.Desk.path l.desk ≡ g.D.Desk.path l.initial.desk)
    × (g.D.Desk.content_type l.desk ≡ g.D.Desk.content_type l.initial.desk)
