use Rattle.std.proofs.Common.{◌||◌, ◌==◌, ◌∙◌, Bool, ap, refl}
use Rattle.http_desks.specs.Uses.{IsUse}
use Rattle.http_sessions.specs.Leaves.{AtOnce}
use Rattle.http_sessions.proofs.FoundLemmas.{done_leaves, failed_leaves, started_leaves, unstarted_leaves}
use Rattle.http_sessions.proofs.TalkLemmas.{rest_from}
use Rattle.http_sessions.proofs.talks.replying.reply.Goals as goal

pub returns-in-Ok-Done-clause-leaves : goal.returns-in-Ok-Done-clause-leaves
returns-in-Ok-Done-clause-leaves g c =
    done_leaves (AtOnce (IsUse (g.D.Desk.path c.args.desk.now) (g.Z.Clock.tells c.args.site.now) (g.Z.Packages.sizes c.args.site.now) (g.Z.Packages.reads c.args.site.now)))
    g.D.Desk.steps (g.D.Desk.content_type c.args.desk.now) c.args.begun c.args.kept.now c.args.found.now c.requires.found c.requires.few
    c.args.desk.now c.begin.new.desk c.in-Ok-Done.handled c.closes_after-closes.result _ c.done_after.result
    (c.closes_after-closes.ensures.closes ∙ ap (λ (b : Bool). b || (c.args.begun == 999)) c.requires.found.closes)
    (rw (c.in-Ok-Done.field-0-is, c.in-Some.ensures.made) at c.in-Ok-Done.ensures.begins)
    (rw (c.in-Some.ensures.kept, rest_from c.args.found.now.length c.args.kept.now) at c.done_after.ensures)

pub returns-in-Ok-clause-leaves : goal.returns-in-Ok-clause-leaves
returns-in-Ok-clause-leaves g c =
    let (fits, some, calls, head) = rw (c.in-Ok-Sends.field-0-is, c.in-Some.ensures.made) at c.in-Ok-Sends.ensures.begins in
    started_leaves (AtOnce (IsUse (g.D.Desk.path c.args.desk.now) (g.Z.Clock.tells c.args.site.now) (g.Z.Packages.sizes c.args.site.now) (g.Z.Packages.reads c.args.site.now)))
    g.D.Desk.steps (g.D.Desk.content_type c.args.desk.now) c.args.begun c.args.kept.now c.args.found.now c.requires.found c.requires.few
    c.args.desk.now c.begin.new.desk c.in-Ok-Sends.name.now c.in-Ok-Sends.declared c.closes_after-closes.result c.in-Ok.sending _ c.started_after.result
    (c.closes_after-closes.ensures.closes ∙ ap (λ (b : Bool). b || (c.args.begun == 999)) c.requires.found.closes)
    (fits, refl) calls head c.in-Ok.ensures (rw (c.in-Some.ensures.kept, rest_from c.args.found.now.length c.args.kept.now) at c.started_after.ensures)

pub returns-in-Err-sending_of-clause-leaves : goal.returns-in-Err-sending_of-clause-leaves
returns-in-Err-sending_of-clause-leaves g c =
    let (fits, some, calls, head) = rw (c.in-Ok-Sends.field-0-is, c.in-Some.ensures.made) at c.in-Ok-Sends.ensures.begins in (
      c.in-Some.ensures.failure,
      unstarted_leaves (AtOnce (IsUse (g.D.Desk.path c.args.desk.now) (g.Z.Clock.tells c.args.site.now) (g.Z.Packages.sizes c.args.site.now) (g.Z.Packages.reads c.args.site.now)))
          g.D.Desk.steps (g.D.Desk.content_type c.args.desk.now) c.args.begun c.args.kept.now c.args.found.now c.requires.found c.requires.few
          c.args.desk.now c.begin.new.desk c.in-Ok-Sends.name.now c.in-Ok-Sends.declared c.closes_after-closes.result _
          (c.closes_after-closes.ensures.closes ∙ ap (λ (b : Bool). b || (c.args.begun == 999)) c.requires.found.closes)
          (fits, refl) calls head,
    )

pub returns-in-Err-clause-leaves : goal.returns-in-Err-clause-leaves
returns-in-Err-clause-leaves g c = (
  c.in-Some.ensures.failure,
  failed_leaves (AtOnce (IsUse (g.D.Desk.path c.args.desk.now) (g.Z.Clock.tells c.args.site.now) (g.Z.Packages.sizes c.args.site.now) (g.Z.Packages.reads c.args.site.now)))
      g.D.Desk.steps (g.D.Desk.content_type c.args.desk.now) c.args.begun c.args.kept.now c.args.found.now c.requires.found c.requires.few
      c.args.desk.now c.begin.new.desk c.closes_after-closes.result _ _
      (c.closes_after-closes.ensures.closes ∙ ap (λ (b : Bool). b || (c.args.begun == 999)) c.requires.found.closes)
      (rw c.in-Some.ensures.made at c.in-Err.ensures.begins),
)
