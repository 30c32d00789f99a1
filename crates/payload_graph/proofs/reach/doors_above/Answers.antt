use Rattle.std.proofs.Common.{◌+◌, ◌-◌, take, drop, ap, ◌∙◌, arith}
use Rattle.payload_graph.proofs.RangeLemmas.{between-range}
use Rattle.payload_graph.proofs.ReachLemmas.{between-reach, reach_of-bounds}
use Rattle.payload_graph.specs.Soundness.{reach_of}
use Rattle.payload_graph.proofs.reach.doors_above.Goals as goal

pub slice_bounds-result-start : goal.slice_bounds-result-start
slice_bounds-result-start c =
    let right = c.requires.reached.right c.args.from c.requires.below in
    let bounds = reach_of-bounds c.args.target c.args.doors.now c.args.from c.requires.below c.requires.within in
    omega arith

pub slice_bounds-result-end : goal.slice_bounds-result-end
slice_bounds-result-end c =
    let right = c.requires.reached.right c.args.from c.requires.below in
    let bounds = reach_of-bounds c.args.target c.args.doors.now c.args.from c.requires.below c.requires.within in
    omega arith

pub returns : goal.returns
returns c =
    let right = c.requires.reached.right c.args.from c.requires.below in
    let bounds = reach_of-bounds c.args.target c.args.doors.now c.args.from c.requires.below c.requires.within in
    ap (λ reach. take (reach - (c.args.from + 1)) (drop (c.args.from + 1) c.args.doors.now)) right
    ∙ between-range c.args.doors.now (c.args.from + 1) (reach_of c.args.target c.args.doors.now c.args.from) bounds.0
    ∙ between-reach c.args.target c.args.doors.now c.args.from c.requires.below c.requires.within
