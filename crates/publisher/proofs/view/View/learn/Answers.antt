use Rattle.std.proofs.Common.{subst}
use Rattle.publisher.specs.Beginnings.{StartsWith}
use Rattle.publisher.proofs.view.View.learn.Goals as goal

pub returns-clause-learnt : goal.returns-clause-learnt
returns-clause-learnt c now allows =
    let learnt = c.hear.ensures.learnt now allows in
    (learnt.0, subst (StartsWith now) c.shared.ensures learnt.1)
