use Rattle.std.proofs.Common.{◌≡◌, ◌∙◌, [], ◌∷◌, ◌++◌, append_assoc, ap, arith, length, Some}
use Rattle.std.specs.Vec.Iter.{into_iter_items}
use Rattle.std.proofs.lemmas.List.{map-append}
use Rattle.std.proofs.lemmas.List.Elements.{All-pop, All-push}
use Rattle.mirror_ledger.specs.Tills.{IsFresh}
use Rattle.mirror_ledger.proofs.running.paired.Goals as goal

pub loop-job-preserved : goal.loop-job-preserved
loop-job-preserved g c =
    let at = c.loop-job in
    let steps : into_iter_items at.job-iterator ≡ c.in-Some.job ∷ into_iter_items c.next.new.self = c.in-Some.ensures.steps.0 in
    let short = ap length steps in
    record {
      rest = append_assoc at.yielded (c.in-Some.job ∷ []) _ ∙ rw (← steps) at.invariant.rest;
      count =
          let was = at.invariant.count in
          let gone = c.in-Some.ensures.steps.1 in
          omega arith;
      left = omega (arith, at.invariant.left, short, c.with_till.ensures.many, at.tills.ok.0, c.with_till.new.tills.ok.0);
      jobs =
          rw c.in_ok-push.ensures.items
          (map-append (λ pair. pair.job) at.pairs.items (c.with_till.result ∷ [])
          ∙ ap (λ jobs. jobs ++ c.with_till.result.job ∷ []) at.invariant.jobs
          ∙ ap (λ job. at.yielded ++ job ∷ []) c.with_till.ensures.job);
      fresh = λ single mirrors all.
          let Fresh = IsFresh g.T.Till.mirrors g.T.Till.asks g.T.Till.alone single mirrors in
          let (tills, pairs) = at.invariant.fresh single mirrors all in
          let (others, one) = All-pop Fresh at.tills.items c.with_till.new.tills.items (Some c.with_till.result.till) c.with_till.ensures.till tills in (
            others,
            rw c.in_ok-push.ensures.items (All-push (λ pair. Fresh pair.till) at.pairs.items c.with_till.result pairs one),
          );
    }

pub returns-clause-fresh : goal.returns-clause-fresh
returns-clause-fresh g c = λ single mirrors all. (c.loop-job.invariant.fresh single mirrors all).1
