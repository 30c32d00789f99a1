use Rattle.std.proofs.Common.{◌≡◌, true, not, is_ok, refl, ap, ◌∙◌}
use Rattle.replies.proofs.AskLemmas.{AsksFirst-none, AsksFirst-take, AsksFor-next, AsksFor-none}
use Rattle.replies.proofs.OrderLemmas.{GrantsFirst-none, alone-trans}
use Rattle.replies.proofs.asking.ask_each.Goals as goal

pub returns-in_default-clause-err : goal.returns-in_default-clause-err
returns-in_default-clause-err g c =
    AsksFirst-none (g.T.Till.mirrors c.args.till.now) c.args.plan.now (g.T.Till.asks c.args.till.now)

pub returns-then-is_err-clause-err : goal.returns-then-is_err-clause-err
returns-then-is_err-clause-err g c =
    let outcome = rw c.loop-choice.invariant.same at c.ask_for-outcome.ensures.outcome in
    AsksFirst-take (g.T.Till.mirrors c.args.till.now) c.args.plan.now _ _ (g.T.Till.asks c.args.till.now) (g.T.Till.asks c.ask_for-outcome.new.till)
    (AsksFor-next (g.T.Till.mirrors c.args.till.now) c.args.plan.now c.loop-choice.choice-index c.loop-choice.outcomes.items c.ask_for-outcome.result
    (g.T.Till.asks c.args.till.now) (g.T.Till.asks c.loop-choice.till) (g.T.Till.asks c.ask_for-outcome.new.till)
    c.loop-choice-test.true c.loop-choice.invariant.asks outcome c.ask_for-outcome.ensures.asks)

pub returns-in_default-clause-alone : goal.returns-in_default-clause-alone
returns-in_default-clause-alone g c =
    λ alone. (alone, GrantsFirst-none (g.T.Till.mirrors c.args.till.now) (g.T.Till.asks c.args.till.now))

pub loop-choice-init : goal.loop-choice-init
loop-choice-init g c = record {
  same = refl;
  asks = rw c.in-Ok.ensures.items (AsksFor-none (g.T.Till.mirrors c.args.till.now) (g.T.Till.asks c.args.till.now));
  alone = λ alone. (alone, GrantsFirst-none (g.T.Till.mirrors c.args.till.now) (g.T.Till.asks c.args.till.now));
}

pub returns-then-is_err-clause-alone : goal.returns-then-is_err-clause-alone
returns-then-is_err-clause-alone g c =
    let further = rw c.loop-choice.invariant.same at c.ask_for-outcome.ensures.alone in
    alone-trans (g.T.Till.alone c.args.till.now) (g.T.Till.alone c.loop-choice.till) (g.T.Till.alone c.ask_for-outcome.new.till) (g.T.Till.mirrors c.args.till.now)
    (g.T.Till.asks c.args.till.now) (g.T.Till.asks c.loop-choice.till) (g.T.Till.asks c.ask_for-outcome.new.till)
    c.loop-choice.invariant.alone further

pub loop-choice-preserved : goal.loop-choice-preserved
loop-choice-preserved g c =
    let outcome = rw c.loop-choice.invariant.same at c.ask_for-outcome.ensures.outcome in
    let further = rw c.loop-choice.invariant.same at c.ask_for-outcome.ensures.alone in
    let whole : is_ok c.push.result ≡ true = c.is_err.ensures.negation ∙ ap not c.if-is_err.false in
    let pushed = rw whole at c.push.ensures.items in
    record {
      same = c.ask_for-outcome.ensures.mirrors ∙ c.loop-choice.invariant.same;
      asks =
          rw pushed
          (AsksFor-next (g.T.Till.mirrors c.args.till.now) c.args.plan.now c.loop-choice.choice-index c.loop-choice.outcomes.items c.ask_for-outcome.result
          (g.T.Till.asks c.args.till.now) (g.T.Till.asks c.loop-choice.till) (g.T.Till.asks c.ask_for-outcome.new.till)
          c.loop-choice-test.true c.loop-choice.invariant.asks outcome c.ask_for-outcome.ensures.asks);
      alone =
          alone-trans (g.T.Till.alone c.args.till.now) (g.T.Till.alone c.loop-choice.till) (g.T.Till.alone c.ask_for-outcome.new.till) (g.T.Till.mirrors c.args.till.now)
          (g.T.Till.asks c.args.till.now) (g.T.Till.asks c.loop-choice.till) (g.T.Till.asks c.ask_for-outcome.new.till)
          c.loop-choice.invariant.alone further;
    }
