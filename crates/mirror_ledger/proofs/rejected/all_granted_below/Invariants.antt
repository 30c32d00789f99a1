-- Each ask of the tills so far for fewer bytes was granted.
use Rattle.std.proofs.Common.{◌<◌, ℕ, List, get_or, map}
use Rattle.mirror_ledger.specs.Asks.{AreGrantedBelow, Ask}
use Rattle.mirror_ledger.proofs.rejected.all_granted_below.Given as goal

abbrev pub invariant-loop-till : goal.invariant-loop-till
invariant-loop-till g l = (k : ℕ) (d : List Ask) → k < l.till-index →
    AreGrantedBelow l.least (get_or (map (λ t. t.shares.asks) l.tills) k d)
