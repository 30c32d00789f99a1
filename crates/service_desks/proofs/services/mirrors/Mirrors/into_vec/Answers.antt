use Rattle.service_desks.proofs.ServiceMirrorLemmas.{are_bounded-mirrors}
use Rattle.service_desks.proofs.services.mirrors.Mirrors.into_vec.Goals as goal

pub returns-clause-bounded : goal.returns-clause-bounded
returns-clause-bounded c = are_bounded-mirrors c.self.inside.list.items c.self.invariant.formed
