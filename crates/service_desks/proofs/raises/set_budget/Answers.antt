use Rattle.service_desks.proofs.MirrorLemmas.{raise_at-set}
use Rattle.service_desks.proofs.raises.set_budget.Goals as goal

pub returns : goal.returns
returns c =
    raise_at-set c.args.mirrors.now.items c.args.index c.args.budget c.index_mut.result.now c.index_mut.ensures.value c.requires
