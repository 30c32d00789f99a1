use Rattle.profiles.proofs.profile.read_service.Goals as goal

pub make_service-requires-clause-mirrors : goal.make_service-requires-clause-mirrors
make_service-requires-clause-mirrors g c =
    c.mirrors.ensures c.args.profile.now c.in_ok-batch.batch c.in_ok-batch.mirrors.items c.in_ok-batch.ensures
