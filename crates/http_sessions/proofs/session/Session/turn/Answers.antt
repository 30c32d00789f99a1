use Rattle.std.proofs.Common.{◌≡◌, ◌∙◌, ℕ, List, ◌++◌, arith, subst, sym}
use Rattle.http_desks.specs.Uses.{IsUse}
use Rattle.http_sessions.specs.Readings.{IsMessage}
use Rattle.http_sessions.specs.declared.session.Session.{Session}
use Rattle.http_sessions.proofs.TurnLemmas.{ended, failed, rejected, replied, take-all-before}
use Rattle.http_sessions.proofs.session.Session.turn.Goals as goal

pub returns-in-Ok-Whole-clause-serves : goal.returns-in-Ok-Whole-clause-serves
returns-in-Ok-Whole-clause-serves g c =
    let reads = rw c.in-Ok-Whole.field-0-is at c.in-Ok-Whole.ensures.reads in
    let (outcome, answers, comes) = c.reply.ensures.replies in
    let session : Session = record { window = c.read_message.new.window; begun = c.args.self.begun; few = c.args.self.few } in
    let target = c.deref.result.now in
    let body = c.deref-in-Ok-Whole.result.now in
    let same_target : target ≡ c.read_message.new.target =
    c.deref.ensures.value ∙ take-all-before c.read_message.new.target _ _ (omega (arith, c.read_message.auto.target, c.deref_mut-2.ensures.len)) in
    let same_body : body ≡ c.read_message.new.body =
    c.deref-in-Ok-Whole.ensures.value ∙ take-all-before c.read_message.new.body _ _ (omega (arith, c.read_message.auto.body, c.deref_mut-3.ensures.len)) in
    let whole : IsMessage (c.args.self.window ++ reads.given) c.read_message.new.window target body c.in-Ok-Whole.plan =
    subst (λ (t : List ℕ). IsMessage (c.args.self.window ++ reads.given) c.read_message.new.window t body c.in-Ok-Whole.plan) (sym same_target)
    (subst (λ (b : List ℕ). IsMessage (c.args.self.window ++ reads.given) c.read_message.new.window c.read_message.new.target b c.in-Ok-Whole.plan)
    (sym same_body) reads.finds) in
    replied (IsUse (g.D.Desk.path c.args.desk.now) (g.Z.Clock.tells c.args.site.now) (g.Z.Packages.sizes c.args.site.now) (g.Z.Packages.reads c.args.site.now))
    g.D.Desk.steps (g.D.Desk.content_type c.args.desk.now) session c.args.self.window reads.given target body
    c.in-Ok-Whole.plan c.closes_after.result
    (g.S.Source.remaining c.args.source.now) (g.S.Source.remaining c.read_message.new.source)
    (g.W.Sink.contents c.args.sink.now) (g.W.Sink.contents c.reply.new.sink) c.args.desk.now c.reply.new.desk outcome c.reply.result
    reads.consumed whole (omega (arith, whole.fits, c.deref-in-Ok-Whole.ensures.len, c.args.buffers.now.bodies))
    c.closes_after.ensures.closes answers comes

pub returns-in-Ok-Rejected-clause-serves : goal.returns-in-Ok-Rejected-clause-serves
returns-in-Ok-Rejected-clause-serves g c =
    let reads = rw c.in-Ok-Rejected.field-0-is at c.in-Ok-Rejected.ensures.reads in
    rejected (IsUse (g.D.Desk.path c.args.desk.now) (g.Z.Clock.tells c.args.site.now) (g.Z.Packages.sizes c.args.site.now) (g.Z.Packages.reads c.args.site.now))
    g.D.Desk.steps (g.D.Desk.content_type c.args.desk.now) c.args.self.begun c.in-Ok-Rejected.status c.args.self.window reads.given
    _ _ _ _ c.args.desk.now c.reject.result reads.consumed c.args.self.few reads.finds c.reject.ensures.rejects

pub returns-in-Ok-Ended-clause-serves : goal.returns-in-Ok-Ended-clause-serves
returns-in-Ok-Ended-clause-serves g c =
    let reads = rw c.in-Ok-Ended.field-0-is at c.in-Ok-Ended.ensures.reads in
    let (part, at_end, how) = reads.finds in
    ended (IsUse (g.D.Desk.path c.args.desk.now) (g.Z.Clock.tells c.args.site.now) (g.Z.Packages.sizes c.args.site.now) (g.Z.Packages.reads c.args.site.now))
    g.D.Desk.steps (g.D.Desk.content_type c.args.desk.now) c.args.self.begun c.in-Ok-Ended.how c.args.self.window reads.given
    _ _ _ c.args.desk.now reads.consumed c.args.self.few part at_end how

pub returns-in-Err-clause-serves : goal.returns-in-Err-clause-serves
returns-in-Err-clause-serves g c =
    let reads = c.in-Err.ensures.reads in
    failed (IsUse (g.D.Desk.path c.args.desk.now) (g.Z.Clock.tells c.args.site.now) (g.Z.Packages.sizes c.args.site.now) (g.Z.Packages.reads c.args.site.now))
    g.D.Desk.steps (g.D.Desk.content_type c.args.desk.now) c.args.self.begun c.args.self.window reads.given
    _ _ _ c.args.desk.now reads.consumed c.args.self.few reads.finds
