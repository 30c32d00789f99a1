use Rattle.std.proofs.Common.{map, refl}
use Rattle.mirror_ledger.proofs.TillLemmas.{AreTotalsOf-parts}
use Rattle.mirror_ledger.proofs.closing.close_tills.Goals as goal

pub returns-clause-totals : goal.returns-clause-totals
returns-clause-totals g c =
    let parts = c.gather_tills-parts.result in
    let gathered = c.gather_tills-parts.ensures in
    AreTotalsOf-parts _ c.in_ok-totals.mirrors.items (map (λ t. t.shares.asks) c.args.tills.items) c.in_ok-totals.totals.items
    parts.first.amount parts.second.amount parts.third.amount parts.fourth.amount refl
    c.in_ok-totals.ensures.totals gathered.first.1 gathered.second.1 gathered.third.1 gathered.fourth.1
    c.in_ok-totals.ensures.within
