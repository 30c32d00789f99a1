use Rattle.std.proofs.Common.{◌≡◌, Ok, ap, inl, inr, refl, subst}
use Rattle.http_desks.specs.Calls.{answer_in}
use Rattle.service_desks.specs.Attempts.{attempt_in}
use Rattle.service_desks.specs.Following.{GivesWay, state}
use Rattle.service_desks.specs.Raises.{AttemptsToRaise, Funds}
use Rattle.service_desks.specs.States.{State, store}
use Rattle.service_desks.specs.declared.attempt.Attempt.{Attempt}
use Rattle.service_desks.specs.declared.attempt.Attempt.TheVariants.{Overtaken, Replied}
use Rattle.service_desks.proofs.operator.raise.Goals as goal

pub returns-in-Ok-Replied-clause-is : goal.returns-in-Ok-Replied-clause-is
returns-in-Ok-Replied-clause-is g c =
    let old : Funds = (
      g.B.Budgets.present c.args.budgets.now,
      store (g.K.Records.first c.args.records.now) (g.K.Records.kept c.args.records.now) c.args.due.now,
    ) in
    let new : Funds = (
      g.B.Budgets.present c.perform_raise.new.budgets,
      store (g.K.Records.first c.perform_raise.new.records) (g.K.Records.kept c.perform_raise.new.records) c.args.due.now,
    ) in
    let came : c.in-Ok-Replied.field-0 ≡ Replied c.in-Ok-Replied.answer = search in
    inl (
      subst (λ (a : Attempt). AttemptsToRaise old new c.args.body.now (attempt_in (Ok a))) came
          (c.in-Ok-Replied.ensures.raises c.args.due.now),
      refl,
    )

pub returns-in-Ok-Overtaken-clause-is : goal.returns-in-Ok-Overtaken-clause-is
returns-in-Ok-Overtaken-clause-is g c =
    let old : Funds = (
      g.B.Budgets.present c.args.budgets.now,
      store (g.K.Records.first c.args.records.now) (g.K.Records.kept c.args.records.now) c.args.due.now,
    ) in
    let new : Funds = (
      g.B.Budgets.present c.perform_raise.new.budgets,
      store (g.K.Records.first c.perform_raise.new.records) (g.K.Records.kept c.perform_raise.new.records) c.args.due.now,
    ) in
    let came : c.in-Ok-Overtaken.field-0 ≡ Overtaken = search in
    let same : new ≡ old = subst (λ (a : Attempt). AttemptsToRaise old new c.args.body.now (attempt_in (Ok a))) came
    (c.in-Ok-Overtaken.ensures.raises c.args.due.now) in
    let after = state (g.B.Budgets.present c.give_way.new.budgets) c.give_way.new.press
    (g.K.Records.first c.give_way.new.records) (g.K.Records.kept c.give_way.new.records) c.give_way.new.due in
    let at : Funds → State = λ (f : Funds). record { mirrors = f.0; history = c.args.press.now; store = f.1 } in
    inr (subst (λ (s : State). GivesWay s (answer_in c.give_way.result) after) (ap at same) c.give_way.ensures.gives_way)

pub returns-in-Err-clause-is : goal.returns-in-Err-clause-is
returns-in-Err-clause-is g c = inl (c.in-Err.ensures.raises c.args.due.now, refl)
