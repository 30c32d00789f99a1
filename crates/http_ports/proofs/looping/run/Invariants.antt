use Rattle.std.proofs.Common.{◌≡◌, ◌-◌, ◌^◌, ℕ, length, min}
use Rattle.http_ports.specs.Loops.{Works, all_rest, counts_of, kept_at}
use Rattle.http_ports.specs.Speech.{speech_at}
use Rattle.http_ports.proofs.looping.run.Given as goal

abbrev pub invariant-loop : goal.invariant-loop
invariant-loop g l =
    (lost : ℕ)
    × Works
    (speech_at (g.P.Port.stopped l.initial.port) g.E.Protocol.pending g.E.Protocol.phase g.E.Protocol.is_lost (g.E.Protocol.so_far l.protocol)
    (g.D.Desk.path l.initial.desk) (g.D.Desk.content_type l.initial.desk))
    all_rest g.D.Desk.steps l.initial.desk l.desk (g.P.Port.slots l.port) (kept_at l.conns)
    (counts_of (g.P.Port.terms l.port).capacity (g.P.Port.accepted l.port) lost)
    × (l.lost ≡ min lost (2 ^ 64 - 1))
    × (length l.conns ≡ (g.P.Port.terms l.port).capacity)
    × (g.P.Port.terms l.port ≡ g.P.Port.terms l.initial.port)
    × (g.P.Port.stopped l.port ≡ g.P.Port.stopped l.initial.port)
    × (g.P.Port.own l.port ≡ g.P.Port.own l.initial.port)
    × (g.D.Desk.path l.desk ≡ g.D.Desk.path l.initial.desk)
    × (g.D.Desk.content_type l.desk ≡ g.D.Desk.content_type l.initial.desk)
