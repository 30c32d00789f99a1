use Rattle.std.proofs.Common.{arith}
use Rattle.std.proofs.lemmas.List.Elements.{All-push}
use Rattle.mirror_ledger.specs.Asks.{AreUnused}
use Rattle.mirror_ledger.proofs.opening.split_shares.Goals as goal

pub loop-worker-preserved : goal.loop-worker-preserved
loop-worker-preserved g c =
    let at = c.loop-worker.invariant in
    let split = c.split_off.ensures in (
      omega (arith, at.0, split.first.0),
      split.first.1,
      omega (arith, at.2, split.second.0),
      split.second.1,
      omega (arith, at.4, split.third.0),
      split.third.1,
      omega (arith, at.6, split.fourth.0),
      split.fourth.1,
      omega (arith, at.8, c.in_ok-push.ensures.len),
      rw c.in_ok-push.ensures.items
          (All-push (λ s. AreUnused s.first s.second s.third s.fourth s.asks) c.loop-worker.shares.items c.split_off.result at.9 split.unused),
    )
