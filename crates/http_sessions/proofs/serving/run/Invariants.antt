use Rattle.std.proofs.Common.{◌≡◌, ◌-◌, true}
use Rattle.http_desks.specs.Uses.{IsUse}
use Rattle.http_sessions.specs.Sessions.{Serves, replies, waiting}
use Rattle.http_sessions.proofs.RunLemmas.{GoesOnWith}
use Rattle.http_sessions.proofs.serving.run.Given as goal

abbrev pub invariant-turns : goal.invariant-turns
invariant-turns g l =
    Serves (IsUse (g.D.Desk.path l.fn.desk) (g.Z.Clock.tells l.site) (g.Z.Packages.sizes l.site) (g.Z.Packages.reads l.site))
    g.D.Desk.steps (g.D.Desk.content_type l.fn.desk) (replies l.initial.session)
    (GoesOnWith (replies l.initial.session) (waiting l.session) (replies l.session)) true (waiting l.initial.session)
    (g.S.Source.remaining l.fn.source) (g.S.Source.remaining l.source) (g.W.Sink.contents l.fn.sink) (g.W.Sink.contents l.sink) l.fn.desk l.desk
    × (g.D.Desk.path l.desk ≡ g.D.Desk.path l.fn.desk)
    × (g.D.Desk.content_type l.desk ≡ g.D.Desk.content_type l.fn.desk)
    × (g.S.Source.failures l.source ≡ g.S.Source.failures l.fn.source)
    × (g.W.Sink.failures l.sink ≡ g.W.Sink.failures l.fn.sink)

abbrev pub decreases-turns : goal.decreases-turns
decreases-turns g l = 1000 - replies l.session
