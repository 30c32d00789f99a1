use Rattle.std.proofs.Common.{rules, refl}
use Rattle.update_client.proofs.walking.take.Goals as goal

pub returns-in_err-step-clause-takes : goal.returns-in_err-step-clause-takes
returns-in_err-step-clause-takes g c =
    let stays = c.in_err-step.ensures.takes c.args.client.now c.args.client.now refl in
    search (stays, rules)
