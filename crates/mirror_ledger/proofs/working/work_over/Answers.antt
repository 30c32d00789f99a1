use Rattle.std.proofs.Common.{◌∙◌, List, arith, false, inr, map, subst}
use Rattle.catalogue.specs.declared.mirror.Mirror.{Mirror}
use Rattle.mirror_ledger.specs.Tills.{AreTotalsOf}
use Rattle.mirror_ledger.proofs.NamedLemmas.{AreTops-fixed}
use Rattle.mirror_ledger.proofs.TillLemmas.{OnErr-any, length-asks}
use Rattle.mirror_ledger.proofs.working.work_over.Goals as goal

pub returns-in_err-totals-clause-err : goal.returns-in_err-totals-clause-err
returns-in_err-totals-clause-err g c =
    let worked = c.work-end.ensures.works c.args.mirrors.items (c.in_ok-tills.ensures.opened false c.args.mirrors.items c.in_ok-books.ensures.given (AreTops-fixed c.args.mirrors.items _ _ _ _ c.requires.fixed)) in
    OnErr-any c.from_residual-in_err-totals.result (inr (map (λ t. t.shares.asks) c.work-end.new.tills.items, c.work-end.result, worked))

pub returns-clause-ok : goal.returns-clause-ok
returns-clause-ok g c =
    let worked = c.work-end.ensures.works c.args.mirrors.items (c.in_ok-tills.ensures.opened false c.args.mirrors.items c.in_ok-books.ensures.given (AreTops-fixed c.args.mirrors.items _ _ _ _ c.requires.fixed)) in
    let asks = map (λ t. t.shares.asks) c.work-end.new.tills.items in (
      asks,
      omega (
        arith,
        length-asks (λ t. t.shares.asks) c.work-end.new.tills.items,
        c.work-end.new.tills.ok.0,
        c.work-end.ensures.many,
        c.in_ok-tills.ensures.many,
        c.in_ok-books.ensures.workers,
      ),
      worked,
      subst (λ (all : List Mirror). AreTotalsOf all asks c.in_ok-totals.totals.items)
          (c.in_ok-totals.ensures.mirrors ∙ c.in_ok-books.ensures.present) c.in_ok-totals.ensures.totals,
    )
