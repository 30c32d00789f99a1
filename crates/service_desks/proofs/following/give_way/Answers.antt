use Rattle.std.proofs.Common.{◌≡◌, Bool, true, Result, Ok, subst, sym}
use Rattle.service_desks.specs.Following.{Adopts, AdoptsNext, state}
use Rattle.service_desks.specs.States.{State}
use Rattle.service_desks.specs.declared.following.Unadopted.{Unadopted}
use Rattle.service_desks.proofs.FollowLemmas.{gives-adopted, settles}
use Rattle.service_desks.proofs.following.give_way.Goals as goal

pub returns-in-Ok-true-clause-gives_way : goal.returns-in-Ok-true-clause-gives_way
returns-in-Ok-true-clause-gives_way g c =
    let mirrors = g.B.Budgets.present c.args.budgets.now in
    let first = g.K.Records.first c.args.records.now in
    let known = g.K.Records.kept c.args.records.now in
    let before = state mirrors c.args.press.now first known c.args.due.now in
    let later = g.B.Budgets.present c.adopt_next.new.budgets in
    let after = state later c.adopt_next.new.press (g.K.Records.first c.adopt_next.new.records)
    (g.K.Records.kept c.adopt_next.new.records) c.adopt_next.new.due in
    let settled = settles mirrors c.args.press.now c.show_due.new.press first known c.args.due.now c.show_due.new.due
    c.in-Ok.ensures.0 c.in-Ok.ensures.1 in
    let came : c.adopt_next.result ≡ Ok true = search in
    let between = state mirrors c.show_due.new.press first known c.show_due.new.due in
    let adopted : Adopts between after =
    subst (λ (r : Result Bool Unadopted). AdoptsNext between r after) came c.adopt_next.ensures.adopts in
    gives-adopted before after c.number_of.result c.reply_with.result
    (subst (λ (s : State). Adopts s after) (sym settled) adopted)
    (c.number_of.ensures later c.adopt_next.new.due) c.reply_with.ensures
