use Rattle.price_cert.proofs.StepLemmas.{IsBest-below}
use Rattle.price_cert.proofs.windows.best_below.Goals as goal

pub returns : goal.returns
returns c =
    IsBest-below c.args.graph.now c.args.rows.now c.args.from c.doors.result.now c.best_beyond-rest.result c.taken.result c.windows.ensures.down c.target-within.ensures.within c.requires.below c.doors.ensures.doors c.taken.ensures c.best_beyond-rest.ensures
