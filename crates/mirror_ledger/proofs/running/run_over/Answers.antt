use Rattle.std.proofs.Common.{◌≡◌, ◌&&◌, List, arith, length, map, nat_eq, not, subst, vec_len}
use Rattle.catalogue.specs.declared.mirror.Mirror.{Mirror}
use Rattle.mirror_ledger.specs.Tills.{HadNoRoom}
use Rattle.mirror_ledger.proofs.PairLemmas.{AreFresh}
use Rattle.mirror_ledger.proofs.running.run_over.Goals as goal

pub returns-clause-works : goal.returns-clause-works
returns-clause-works g c =
    let mirrors = c.args.mirrors.items in
    let rises = g.O.BudgetJob.raises c.args.own.now in
    let opened = c.in_ok-tills.ensures.opened rises mirrors c.in_ok-books.ensures.given c.requires.tops in
    let many : length c.in_ok-tills.tills.items ≡ vec_len c.args.jobs = omega (arith, c.in_ok-tills.ensures.many, c.in_ok-books.ensures.workers, c.len.ensures, c.in_ok-tills.tills.ok.0) in
    let fresh = AreFresh (not rises) (vec_len c.args.jobs) opened many in
    let asks = map (λ t. t.shares.asks) c.in_ok-tills-2.tills.items in
    let closed = c.in_ok-totals.ensures in (
      asks,
      c.in_ok-tills-2.ensures.works (not rises && nat_eq (vec_len c.args.jobs) 1) mirrors fresh,
      closed.totals,
      subst (λ (given : List Mirror). HadNoRoom given asks c.in_ok-totals.totals.items) c.in_ok-books.ensures.given closed.no_room,
    )
