use Rattle.std.proofs.Common.{◌≡◌, Some, arith, not, vec_len}
use Rattle.std.proofs.lemmas.List.Elements.{All-pop, All-push}
use Rattle.mirror_ledger.specs.Asks.{AreUnused}
use Rattle.mirror_ledger.proofs.TillLemmas.{AreOpened-unused}
use Rattle.mirror_ledger.proofs.working.tills_of.Goals as goal

pub returns-clause-opened : goal.returns-clause-opened
returns-clause-opened g c =
    let (many, left, mirrored, unused) = c.loop-next.invariant in
    λ rises mirrors same tops.
    AreOpened-unused (λ t. t.books.now) (λ t. t.shares.first) (λ t. t.shares.second) (λ t. t.shares.third) (λ t. t.shares.fourth) (λ t. t.shares.asks)
    g.A.Ledger.parts g.B.Ledger.parts g.C.Ledger.parts g.D.Ledger.parts (vec_len c.args.shares)
    g.A.BudgetName.most g.B.BudgetName.most g.C.BudgetName.most g.D.BudgetName.most (not rises) _ mirrors c.loop-next.tills.items same mirrored unused
    (omega (arith, c.loop-next.tills.ok.0, many, c.in_default.ensures.cases))
    (omega (arith, c.requires.first)) (omega (arith, c.requires.second)) (omega (arith, c.requires.third)) (omega (arith, c.requires.fourth)) tops.fixed

pub loop-next-preserved : goal.loop-next-preserved
loop-next-preserved g c =
    let (many, left, mirrored, unused) = c.loop-next.invariant in
    let (others, none) = All-pop (λ s. AreUnused s.first s.second s.third s.fourth s.asks) c.loop-next.shares.items c.pop.new.self.items (Some c.in-Some.next)
    c.in-Some.ensures.items left in (
      omega (arith, many, c.in-Some.ensures.cases, c.in_ok-push.ensures.len),
      others,
      rw c.in_ok-push.ensures.items (All-push (λ t. t.books.now ≡ c.args.books.now) c.loop-next.tills.items c.new.result mirrored c.new.ensures.books),
      rw c.in_ok-push.ensures.items
          (All-push (λ t. AreUnused t.shares.first t.shares.second t.shares.third t.shares.fourth t.shares.asks) c.loop-next.tills.items c.new.result unused
          (rw c.new.ensures.shares none)),
    )
