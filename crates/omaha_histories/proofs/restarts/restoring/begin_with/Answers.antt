use Rattle.omaha_histories.proofs.restarts.restoring.begin_with.Goals as goal

pub invariant_of-result : goal.invariant_of-result
invariant_of-result c =
    c.mirrors.ensures c.args.profile.now c.in-Ok.profile.0 c.in-Ok.profile.1.items c.in-Ok.ensures
