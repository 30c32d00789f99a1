use Rattle.std.proofs.Common.{Ok}
use Rattle.service_desks.proofs.MirrorLemmas.{AreMirrors-raises}
use Rattle.service_desks.proofs.raises.raise_to.Goals as goal

pub returns-in-Ok-keep_and_raise-clause-listed : goal.returns-in-Ok-keep_and_raise-clause-listed
returns-in-Ok-keep_and_raise-clause-listed g c = λ are.
    AreMirrors-raises (g.B.Budgets.present c.args.budgets.now) (g.B.Budgets.present c.keep_and_raise.new.budgets) c.args.name.now
    c.value_of-budget.result (Ok tt) c.in-Ok-keep_and_raise.ensures.raised are
