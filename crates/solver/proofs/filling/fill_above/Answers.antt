use Rattle.std.proofs.Common.{length, ap, arith, rules}
use Rattle.price_cert.specs.Laws.{IsGraph}
use Rattle.solver.proofs.FillLemmas.{AreSettled-above, IsBest-lower}
use Rattle.solver.proofs.SettledLemmas.{ArePricesSmall-within}
use Rattle.solver.proofs.filling.fill_above.Goals as goal

pub best_above-best-requires-clause-small : goal.best_above-best-requires-clause-small
best_above-best-requires-clause-small c =
    let net = c.args.graph.now in
    let shown = ap length c.doors-from-end.ensures.doors in
    let graph : IsGraph net = record { within = c.target-from.ensures.within; numbered = c.doors-from-end.ensures.numbered; nearing = c.differs-nearing.ensures.nearing; bounded = c.doors-from-end.ensures.bounded } in
    ArePricesSmall-within net.target _
    (AreSettled-above c.nearer.ensures.edges c.nearer.ensures.fulls c.sized.ensures net graph c.loop-from.rows c.loop-from.from c.best_row.result (omega arith) (omega arith) c.loop-from.invariant.settled c.best_row.ensures).within

pub best_above-best-requires-clause-best : goal.best_above-best-requires-clause-best
best_above-best-requires-clause-best c =
    let net = c.args.graph.now in
    let shown = ap length c.doors-from-end.ensures.doors in
    let graph : IsGraph net = record { within = c.target-from.ensures.within; numbered = c.doors-from-end.ensures.numbered; nearing = c.differs-nearing.ensures.nearing; bounded = c.doors-from-end.ensures.bounded } in
    IsBest-lower c.nearer.ensures.edges c.nearer.ensures.fulls c.sized.ensures net graph c.loop-from.rows c.loop-from.from c.best_row.result c.loop-from.best (omega arith) (omega arith) c.loop-from.invariant.best

pub loop-from-preserved : goal.loop-from-preserved
loop-from-preserved c =
    let net = c.args.graph.now in
    let shown = ap length c.doors-from-end.ensures.doors in
    let graph : IsGraph net = record { within = c.target-from.ensures.within; numbered = c.doors-from-end.ensures.numbered; nearing = c.differs-nearing.ensures.nearing; bounded = c.doors-from-end.ensures.bounded } in
    record {
      settled = AreSettled-above c.nearer.ensures.edges c.nearer.ensures.fulls c.sized.ensures net graph c.loop-from.rows c.loop-from.from c.best_row.result (omega arith) (omega arith) c.loop-from.invariant.settled c.best_row.ensures;
      best = c.best_above-best.ensures;
    }

pub returns : goal.returns
returns c = search rules
