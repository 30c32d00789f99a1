use Rattle.std.proofs.Common.{◌-◌, ◌∙◌, Option, subst, sym, arith}
use Rattle.std.proofs.lemmas.Grind.{common_steps}
use Rattle.etcd_records.specs.declared.handle.Last.{Last}
use Rattle.etcd_records.specs.Handles.{IsHandle}
use Rattle.etcd_records.proofs.HandleLemmas.{forgotten}
use Rattle.etcd_records.proofs.appending.EtcdRecordsRecords.unread.Goals as goal

pub invariant_of-self-2 : goal.invariant_of-self-2
invariant_of-self-2 g c =
    let it = c.self.inside in
    let exchanges = g.G.Gateway.exchanges it.gateway in
    let was = subst (λ (l : Option Last). IsHandle exchanges it.prefix it.count it.left it.limit it.marks l)
    (sym c.take.ensures.value ∙ c.in-Some.is) c.self.invariant in
    subst (λ (l : Option Last). IsHandle exchanges it.prefix (it.count - 1) c.in-Some.last.left it.limit it.marks l)
    (sym c.take.ensures.after)
    (forgotten exchanges it.prefix it.count it.left it.limit it.marks c.in-Some.last was)

pub overflow_sub-self : goal.overflow_sub-self
overflow_sub-self g c = grind (arith, common_steps)

pub returns-clause-forgets : goal.returns-clause-forgets
returns-clause-forgets g c = grind (arith, common_steps)
