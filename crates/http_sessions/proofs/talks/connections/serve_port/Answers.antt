use Rattle.http_ports.specs.Loops.{counts_of}
use Rattle.http_desks.specs.Uses.{IsUse}
use Rattle.http_ports.specs.Traffic.{IsTime}
use Rattle.http_sessions.specs.Ports.{talk_speech}
use Rattle.http_sessions.proofs.PartLemmas.{HasServed-clock, HasServed-part}
use Rattle.http_sessions.proofs.talks.connections.serve_port.Goals as goal

pub returns-clause-served : goal.returns-clause-served
returns-clause-served g c =
    let (lost, is, served) = c.run.ensures.served in (
      lost,
      is,
      HasServed-part (g.P.Port.stopped c.args.port.now) (λ conn. conn.talk) (talk_speech (IsUse (g.D.Desk.path c.args.desk.now) IsTime
          (g.Z.Packages.sizes c.args.site.now) (g.Z.Packages.reads c.args.site.now))
          (g.D.Desk.content_type c.args.desk.now)) g.D.Desk.steps c.args.desk.now c.run.new.desk
          (g.P.Port.slots c.run.new.port) (counts_of (g.P.Port.terms c.run.new.port).capacity (g.P.Port.accepted c.run.new.port) lost) served,
    )

pub returns-clause-clock : goal.returns-clause-clock
returns-clause-clock g c =
    let (lost, is, served) = c.run.ensures.served in
    HasServed-clock (g.P.Port.stopped c.args.port.now) (λ conn. conn.talk) (talk_speech (IsUse (g.D.Desk.path c.args.desk.now) IsTime
    (g.Z.Packages.sizes c.args.site.now) (g.Z.Packages.reads c.args.site.now))
    (g.D.Desk.content_type c.args.desk.now)) g.D.Desk.steps c.args.desk.now c.run.new.desk
    (g.P.Port.slots c.run.new.port) (counts_of (g.P.Port.terms c.run.new.port).capacity (g.P.Port.accepted c.run.new.port) lost) served
