use Rattle.std.proofs.Common.{◌≡◌, ⊎_elim, rules, subst, sym, true≢false, ◌∙◌}
use Rattle.publisher.specs.Beginnings.{StartsWith}
use Rattle.publisher.specs.Sights.{Allows, Sight}
use Rattle.publisher.proofs.HeardLemmas.{beginnings-linked}
use Rattle.publisher.proofs.meeting.meet.Goals as goal

pub returns-in-Ok-clause-met : goal.returns-in-Ok-clause-met
returns-in-Ok-clause-met c =
    let now = c.in-Ok.entered in
    let learnt = c.hear.ensures.learnt now c.in-Ok.ensures.entered in
    (now, c.leave.ensures, learnt.0, subst (StartsWith now) c.published.ensures learnt.1)

pub returns-in-Ok-clause-linked : goal.returns-in-Ok-clause-linked
returns-in-Ok-clause-linked c seen is =
    let now = c.in-Ok.entered in
    let learnt = c.hear.ensures.learnt now c.in-Ok.ensures.entered in
    let before = subst (λ (sight : Sight). Allows sight now) is learnt.0 in
    beginnings-linked now seen c.args.press.now before.1.0 (subst (StartsWith now) c.published.ensures learnt.1)

pub returns-in-Err-clause-met : goal.returns-in-Err-clause-met
returns-in-Err-clause-met c = search rules

pub returns-in-Err-clause-linked : goal.returns-in-Err-clause-linked
returns-in-Err-clause-linked c = search rules

pub returns-in-Err-clause-learnt : goal.returns-in-Err-clause-learnt
returns-in-Err-clause-learnt c now allows =
    ⊎_elim
    (λ (same : c.in-Err.view ≡ c.hear.new.self).
    let learnt = c.hear.ensures.learnt now (subst (λ (sight : Sight). Allows sight now) same allows) in
    (learnt.0, subst (StartsWith now) c.published.ensures learnt.1))
    (λ lost. absurd (true≢false (sym lost.0 ∙ allows.0)))
    c.in-Err.ensures.back
