use Rattle.std.proofs.Common.{Ok, sym}
use Rattle.std.specs.Str.Parse.{digits_value}
use Rattle.service_desks.proofs.MirrorLemmas.{AreMirrors-raises}
use Rattle.service_desks.proofs.RaiseLemmas.{RaisesTo-spells, Spells}
use Rattle.service_desks.proofs.following.make_raise.Goals as goal

pub returns-in-Ok-clause-raised : goal.returns-in-Ok-clause-raised
returns-in-Ok-clause-raised g c =
    let name = c.in-Some.name.now in
    let digits = c.in-Some.digits.now in
    let spells : Spells (digits_value 10 digits) c.value_of.result =
    record { same = c.value_of.ensures.same; high = c.value_of.ensures.high } in (
      (name, digits),
      sym c.in-Some.ensures.asked,
      RaisesTo-spells (g.B.Budgets.present c.args.budgets.now) (g.B.Budgets.present c.raise.new.self) name
          (digits_value 10 digits) c.value_of.result (Ok tt) spells c.in-Ok.ensures.raises,
    )

pub returns-in-Ok-clause-listed : goal.returns-in-Ok-clause-listed
returns-in-Ok-clause-listed g c = λ are.
    AreMirrors-raises (g.B.Budgets.present c.args.budgets.now) (g.B.Budgets.present c.raise.new.self) c.in-Some.name.now
    c.value_of.result (Ok tt) c.in-Ok.ensures.raises are
