use Rattle.std.proofs.Common.{List, Ok, subst, sym}
use Rattle.std.specs.Str.Parse.{digits_value}
use Rattle.catalogue.specs.declared.mirror.Mirror.{Mirror}
use Rattle.service_desks.specs.Raises.{MayRaise}
use Rattle.service_desks.proofs.MirrorLemmas.{AreMirrors-raises}
use Rattle.service_desks.proofs.RaiseLemmas.{RaisesTo-spells}
use Rattle.service_desks.proofs.raises.replay_raise.Goals as goal

pub returns-in-Ok-clause-replays : goal.returns-in-Ok-clause-replays
returns-in-Ok-clause-replays c =
    let may = subst (λ (ms : List Mirror). MayRaise ms c.in-Some.name.now c.value_of-budget.result c.in-Ok.index)
    c.deref.ensures.value c.in-Ok.ensures in (
      (c.in-Some.name.now, c.in-Some.digits.now),
      sym c.in-Some.ensures.asked,
      RaisesTo-spells c.args.mirrors.now.items c.set_budget.new.mirrors.items c.in-Some.name.now
          (digits_value 10 c.in-Some.digits.now) c.value_of-budget.result (Ok tt)
          (record { same = c.value_of-budget.ensures.same; high = c.value_of-budget.ensures.high })
          (c.in-Ok.index, may.0, may.1, may.2, c.set_budget.ensures),
    )

pub returns-in-Ok-clause-listed : goal.returns-in-Ok-clause-listed
returns-in-Ok-clause-listed c = λ are.
    let may = subst (λ (ms : List Mirror). MayRaise ms c.in-Some.name.now c.value_of-budget.result c.in-Ok.index)
    c.deref.ensures.value c.in-Ok.ensures in
    AreMirrors-raises c.args.mirrors.now.items c.set_budget.new.mirrors.items c.in-Some.name.now
    c.value_of-budget.result (Ok tt) (c.in-Ok.index, may.0, may.1, may.2, c.set_budget.ensures) are
