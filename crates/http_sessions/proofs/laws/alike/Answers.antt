use Rattle.http_desks.specs.Uses.{IsUse}
use Rattle.http_sessions.proofs.AlikeLemmas.{alike}
use Rattle.http_sessions.proofs.laws.alike.Goals as goal

pub returns : goal.returns
returns g c =
    alike (IsUse (g.D.Desk.path c.args.desk.now) (g.Z.Clock.tells c.args.site.now) (g.Z.Packages.sizes c.args.site.now) (g.Z.Packages.reads c.args.site.now))
    g.D.Desk.steps (g.D.Desk.content_type c.args.desk.now)
