use Rattle.std.proofs.Common.{arith}
use Rattle.payload_graph.proofs.LeavingLemmas.{AreParted, filter-leaves, in_order}
use Rattle.payload_graph.proofs.differential.leaving.Goals as goal

pub slice_bounds-result-count : goal.slice_bounds-result-count
slice_bounds-result-count c =
    let parted : AreParted c.args.differs.now c.args.from c.start_of-start.result c.start_of-end.result = record { within = c.start_of-end.ensures.bound; before = c.start_of-start.ensures.before; behind = c.start_of-start.ensures.behind; before_next = c.start_of-end.ensures.before; behind_next = c.start_of-end.ensures.behind } in
    in_order c.args.differs.now c.args.from c.start_of-start.result c.start_of-end.result c.start_of-start.ensures.bound parted

pub slice_bounds-result-start : goal.slice_bounds-result-start
slice_bounds-result-start c =
    let parted : AreParted c.args.differs.now c.args.from c.start_of-start.result c.start_of-end.result = record { within = c.start_of-end.ensures.bound; before = c.start_of-start.ensures.before; behind = c.start_of-start.ensures.behind; before_next = c.start_of-end.ensures.before; behind_next = c.start_of-end.ensures.behind } in
    let ordered = in_order c.args.differs.now c.args.from c.start_of-start.result c.start_of-end.result c.start_of-start.ensures.bound parted in
    omega arith

pub returns : goal.returns
returns c =
    let parted : AreParted c.args.differs.now c.args.from c.start_of-start.result c.start_of-end.result = record { within = c.start_of-end.ensures.bound; before = c.start_of-start.ensures.before; behind = c.start_of-start.ensures.behind; before_next = c.start_of-end.ensures.before; behind_next = c.start_of-end.ensures.behind } in
    filter-leaves c.args.differs.now c.args.from c.start_of-start.result c.start_of-end.result c.start_of-start.ensures.bound parted
