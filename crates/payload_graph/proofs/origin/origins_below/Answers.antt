use Rattle.payload_graph.proofs.OriginLemmas.{IsNonDecreasing-reaches, IsParted, origins_below-parted}
use Rattle.std.proofs.Common.{arith}
use Rattle.payload_graph.proofs.origin.origins_below.Goals as goal

pub first_origin-start-requires : goal.first_origin-start-requires
first_origin-start-requires c =
    IsNonDecreasing-reaches c.args.target c.args.doors.now c.requires.within c.args.reaches.now c.requires.reached

pub returns : goal.returns
returns c =
    let parted : IsParted c.args.target c.args.doors.now c.requires.within c.args.reaches.now c.args.to c.first_origin-start.result = record { bound = c.first_origin-start.ensures.bound; before = c.first_origin-start.ensures.before; behind = c.first_origin-start.ensures.behind } in
    origins_below-parted c.args.target c.args.doors.now c.requires.within c.requires.numbered c.args.reaches.now c.requires.reached c.args.to c.first_origin-start.result (omega (arith, c.if-to-target.false)) parted
