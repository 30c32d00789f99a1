use Rattle.payload_graph.specs.Soundness.{no_door}
use Rattle.price_cert.specs.Best.{nearest_row}
use Rattle.price_cert.proofs.StepLemmas.{IsBest-door}
use Rattle.price_cert.proofs.windows.best_through.Goals as goal

pub loop-door-preserved : goal.loop-door-preserved
loop-door-preserved c =
    IsBest-door c.args.rows.now c.args.from c.args.doors.now c.loop-door.door-index no_door (nearest_row c.loop-door.nearest) (nearest_row c.nearer-nearest.result) c.loop-door-test.true c.nearer-nearest.ensures c.loop-door.invariant
