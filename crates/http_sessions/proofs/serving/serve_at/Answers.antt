use Rattle.http_desks.specs.Uses.{IsUse}
use Rattle.http_sessions.proofs.RunLemmas.{unserved}
use Rattle.http_sessions.proofs.serving.serve_at.Goals as goal

pub returns-in_default-clause-serves : goal.returns-in_default-clause-serves
returns-in_default-clause-serves g c =
    unserved (IsUse (g.D.Desk.path c.args.desk.now) (g.Z.Clock.tells c.args.site.now) (g.Z.Packages.sizes c.args.site.now) (g.Z.Packages.reads c.args.site.now))
    g.D.Desk.steps (g.D.Desk.content_type c.args.desk.now) _ _ c.args.desk.now

pub returns-in_default-new-clause-serves : goal.returns-in_default-new-clause-serves
returns-in_default-new-clause-serves g c =
    unserved (IsUse (g.D.Desk.path c.args.desk.now) (g.Z.Clock.tells c.args.site.now) (g.Z.Packages.sizes c.args.site.now) (g.Z.Packages.reads c.args.site.now))
    g.D.Desk.steps (g.D.Desk.content_type c.args.desk.now) _ _ c.args.desk.now
