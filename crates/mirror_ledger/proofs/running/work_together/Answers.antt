use Rattle.std.proofs.Common.{[], arith, true}
use Rattle.mirror_ledger.proofs.PairLemmas.{HaveWorked-pairs, as_many}
use Rattle.mirror_ledger.proofs.running.work_together.Goals as goal

pub returns-clause-many : goal.returns-clause-many
returns-clause-many g c =
    omega (
      arith,
      c.requires,
      c.args.jobs.ok.0,
      c.args.tills.ok.0,
      c.in_ok-tills.tills.ok.0,
      as_many g.J.TillJob.comes_to g.T.Till.mirrors g.T.Till.asks g.T.Till.alone true [] c.args.jobs.items c.in_ok-pairs.pairs.items
          c.in-Ok.all.items c.in_ok-tills.tills.items c.in_ok-pairs.ensures.jobs c.in-Ok.ensures.each c.in_ok-tills.ensures.tills,
    )

pub returns-clause-works : goal.returns-clause-works
returns-clause-works g c = λ single mirrors fresh.
    HaveWorked-pairs g.J.TillJob.comes_to g.T.Till.mirrors g.T.Till.asks g.T.Till.alone single mirrors
    c.args.jobs.items c.in_ok-pairs.pairs.items c.in-Ok.all.items c.in_ok-tills.tills.items c.in_ok-tills.ends.items
    c.in_ok-pairs.ensures.jobs (c.in_ok-pairs.ensures.fresh single mirrors fresh) c.in-Ok.ensures.each
    c.in_ok-tills.ensures.tills c.in_ok-tills.ensures.ends
