use Rattle.std.proofs.Common.{arith}
use Rattle.mirror_ledger.proofs.RejectedLemmas.{AreGrantedBelow-more}
use Rattle.mirror_ledger.proofs.rejected.all_granted_below.Goals as goal

pub loop-till-preserved : goal.loop-till-preserved
loop-till-preserved g c =
    AreGrantedBelow-more (λ t. t.shares.asks) c.args.tills.now c.loop-till.till-index c.loop-till.least c.granted_below.result
    c.min-least.result c.till-item.result c.loop-till-test.true c.till-item.is
    (omega (arith, c.min-least.ensures)) (omega (arith, c.min-least.ensures)) c.granted_below.ensures c.loop-till.invariant
