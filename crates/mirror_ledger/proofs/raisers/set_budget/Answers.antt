use Rattle.std.proofs.Common.{◌∙◌, List, ap}
use Rattle.catalogue.specs.declared.mirror.Mirror.{Mirror}
use Rattle.mirror_ledger.specs.Named.{budget_at}
use Rattle.mirror_ledger.proofs.RaisingLemmas.{budget_at-other, budget_at-raised, raise_at-set}
use Rattle.mirror_ledger.proofs.raisers.set_budget.Goals as goal

pub returns-clause-raised : goal.returns-clause-raised
returns-clause-raised c =
    raise_at-set c.args.mirrors.now.items c.args.index c.args.budget c.index_mut.result.now c.index_mut.ensures.value c.requires

pub returns-clause-this : goal.returns-clause-this
returns-clause-this c =
    ap (λ (these : List Mirror). budget_at these c.args.index)
    (raise_at-set c.args.mirrors.now.items c.args.index c.args.budget c.index_mut.result.now c.index_mut.ensures.value c.requires)
    ∙ budget_at-raised c.args.mirrors.now.items c.args.index c.args.budget c.requires

pub returns-clause-others : goal.returns-clause-others
returns-clause-others c = λ other apart.
    ap (λ (these : List Mirror). budget_at these other)
    (raise_at-set c.args.mirrors.now.items c.args.index c.args.budget c.index_mut.result.now c.index_mut.ensures.value c.requires)
    ∙ budget_at-other c.args.mirrors.now.items c.args.index other c.args.budget apart
