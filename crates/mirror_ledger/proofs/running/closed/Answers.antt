use Rattle.std.proofs.Common.{ℕ, List, map, subst}
use Rattle.catalogue.specs.declared.mirror.Mirror.{Mirror}
use Rattle.mirror_ledger.specs.Tills.{AreFull}
use Rattle.mirror_ledger.proofs.RejectedLemmas.{HadNoRoom-below}
use Rattle.mirror_ledger.proofs.running.closed.Goals as goal

pub returns-clause-no_room : goal.returns-clause-no_room
returns-clause-no_room g c =
    let bound = c.all_granted_below-bound.result in
    HadNoRoom-below c.args.books.now (map (λ t. t.shares.asks) c.args.tills.items) c.in_ok-totals.totals.items bound
    (rw c.deref.ensures.value at c.all_granted_below-bound.ensures)
    (subst (λ (given : List Mirror). AreFull given c.in_ok-totals.totals.items bound) c.given-given.ensures
    (subst (λ (sums : List ℕ). AreFull c.given-given.result.now sums bound) c.deref-2.ensures.value (c.are_full.ensures c.if-not-are_full.false)))
