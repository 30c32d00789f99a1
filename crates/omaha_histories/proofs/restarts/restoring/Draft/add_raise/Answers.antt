use Rattle.std.proofs.Common.{List, ap, false, refl, subst}
use Rattle.catalogue.specs.declared.mirror.Mirror.{Mirror}
use Rattle.service_desks.specs.Raises.{Replays}
use Rattle.omaha_histories.specs.Restarting.{Found}
use Rattle.omaha_histories.proofs.restarts.restoring.Draft.add_raise.Goals as goal

pub returns-then-not-replay_raise-clause-err : goal.returns-then-not-replay_raise-clause-err
returns-then-not-replay_raise-clause-err c =
    subst (λ (m : List Mirror). Replays m c.args.raise.now false m) (ap (λ (f : Found). f.mirrors) c.self.view_is)
    (refl, c.if-not-replay_raise.ensures.replays.1)
