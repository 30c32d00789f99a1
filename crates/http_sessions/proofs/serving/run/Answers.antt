use Rattle.std.proofs.Common.{refl, ◌∙◌, arith}
use Rattle.http_desks.specs.Uses.{IsUse}
use Rattle.http_sessions.specs.Sessions.{replies, waiting}
use Rattle.http_sessions.proofs.RunLemmas.{at_desk, begins, ends, faults, goes_on}
use Rattle.http_sessions.proofs.serving.run.Goals as goal

pub turns-init : goal.turns-init
turns-init g c = (
  begins (IsUse (g.D.Desk.path c.args.desk.now) (g.Z.Clock.tells c.args.site.now) (g.Z.Packages.sizes c.args.site.now) (g.Z.Packages.reads c.args.site.now))
      g.D.Desk.steps (g.D.Desk.content_type c.args.desk.now) (replies c.args.session) (waiting c.args.session)
      (g.S.Source.remaining c.args.source.now) (g.W.Sink.contents c.args.sink.now) c.args.desk.now c.args.session.few,
  refl,
  refl,
  refl,
  refl,
)

pub turns-preserved : goal.turns-preserved
turns-preserved g c =
    let (so_far, path, type, reads, writes) = c.turns.invariant in
    let turn = rw c.in-Ok-Open.field-0-is at c.in-Ok-Open.ensures.serves in
    let here = at_desk (g.Z.Clock.tells c.args.site.now) (g.Z.Packages.sizes c.args.site.now) (g.Z.Packages.reads c.args.site.now)
    g.D.Desk.steps (g.D.Desk.path c.turns.desk) (g.D.Desk.path c.args.desk.now) (g.D.Desk.content_type c.turns.desk) (g.D.Desk.content_type c.args.desk.now)
    _ _ _ _ _ _ _ _ _ _ path type turn in (
      goes_on (IsUse (g.D.Desk.path c.args.desk.now) (g.Z.Clock.tells c.args.site.now) (g.Z.Packages.sizes c.args.site.now) (g.Z.Packages.reads c.args.site.now))
          g.D.Desk.steps (g.D.Desk.content_type c.args.desk.now) (replies c.args.session) (replies c.turns.session) c.in-Ok-Open.next
          (waiting c.args.session) (waiting c.turns.session) _ _ _ _ _ _ _ _ _ so_far here,
      c.turn.ensures.path ∙ path,
      c.turn.ensures.content_type ∙ type,
      omega (arith, c.in-Ok-Open.ensures.reads, reads),
      omega (arith, c.in-Ok-Open.ensures.writes, writes),
    )

pub returns-in-Ok-Ended-clause-serves : goal.returns-in-Ok-Ended-clause-serves
returns-in-Ok-Ended-clause-serves g c =
    let (so_far, path, type, reads, writes) = c.turns.invariant in
    let turn = rw c.in-Ok-Ended.field-0-is at c.in-Ok-Ended.ensures.serves in
    let here = at_desk (g.Z.Clock.tells c.args.site.now) (g.Z.Packages.sizes c.args.site.now) (g.Z.Packages.reads c.args.site.now)
    g.D.Desk.steps (g.D.Desk.path c.turns.desk) (g.D.Desk.path c.args.desk.now) (g.D.Desk.content_type c.turns.desk) (g.D.Desk.content_type c.args.desk.now)
    _ _ _ _ _ _ _ _ _ _ path type turn in
    ends (IsUse (g.D.Desk.path c.args.desk.now) (g.Z.Clock.tells c.args.site.now) (g.Z.Packages.sizes c.args.site.now) (g.Z.Packages.reads c.args.site.now))
    g.D.Desk.steps (g.D.Desk.content_type c.args.desk.now) (replies c.args.session) (replies c.turns.session) c.in-Ok-Ended.served
    (waiting c.args.session) (waiting c.turns.session) _ _ _ _ _ _ _ _ _ so_far here

pub returns-in-Err-clause-serves : goal.returns-in-Err-clause-serves
returns-in-Err-clause-serves g c =
    let (so_far, path, type, reads, writes) = c.turns.invariant in
    let here = at_desk (g.Z.Clock.tells c.args.site.now) (g.Z.Packages.sizes c.args.site.now) (g.Z.Packages.reads c.args.site.now)
    g.D.Desk.steps (g.D.Desk.path c.turns.desk) (g.D.Desk.path c.args.desk.now) (g.D.Desk.content_type c.turns.desk) (g.D.Desk.content_type c.args.desk.now)
    _ _ _ _ _ _ _ _ _ _ path type c.in-Err.ensures.serves in
    faults (IsUse (g.D.Desk.path c.args.desk.now) (g.Z.Clock.tells c.args.site.now) (g.Z.Packages.sizes c.args.site.now) (g.Z.Packages.reads c.args.site.now))
    g.D.Desk.steps (g.D.Desk.content_type c.args.desk.now) (replies c.args.session) (replies c.turns.session) c.in-Err.fault
    (waiting c.args.session) (waiting c.turns.session) _ _ _ _ _ _ _ _ _ so_far here
