use Rattle.std.proofs.Common.{◌≡◌, ◌+◌, ◌-◌, subst, arith}
use Rattle.price_cert.specs.Laws.{IsGraph}
use Rattle.solver.proofs.FillLemmas.{AreSettled-below, IsBest-window}
use Rattle.solver.specs.Settled.{AreSettled}
use Rattle.solver.proofs.filling.fill_below.Goals as goal

pub loop-from-preserved : goal.loop-from-preserved
loop-from-preserved c =
    let net = c.args.graph.now in
    let graph : IsGraph net = record { within = c.target-from.ensures.within; numbered = c.doors-bounded.ensures.numbered; nearing = c.differs-nearing.ensures.nearing; bounded = c.doors-bounded.ensures.bounded } in
    let rows = c.loop-from.rows in
    let from = c.loop-from.from - 1 in
    let step : c.loop-from.from ≡ from + 1 = omega arith in
    let settled = subst (λ n. AreSettled net rows n (net.target + 1)) step c.loop-from.invariant.settled in
    let within = c.target-from.ensures.within in
    record {
      settled = AreSettled-below c.nearer.ensures.edges c.nearer.ensures.fulls c.sized.ensures net graph rows from c.best_row.result (omega arith) settled c.best_row.ensures;
      best = IsBest-window c.nearer.ensures.edges c.nearer.ensures.fulls c.sized.ensures net graph rows from c.best_row.result c.best_below-best.result (omega arith) c.best_below-best.ensures;
    }
