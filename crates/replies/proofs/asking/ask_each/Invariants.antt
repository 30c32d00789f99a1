-- The first choices were asked for; a till that is alone granted them on the first mirrors with room.
use Rattle.std.proofs.Common.{◌≡◌, take}
use Rattle.replies.specs.Asking.{AsksFor, GrantsFirst}
use Rattle.replies.proofs.asking.ask_each.Given as goal

abbrev pub invariant-loop-choice : goal.invariant-loop-choice
invariant-loop-choice g l = record {
  same : g.T.Till.mirrors l.till ≡ g.T.Till.mirrors l.fn.till;
  asks : AsksFor (g.T.Till.mirrors l.fn.till) (take l.choice-index l.plan) l.outcomes.items (g.T.Till.asks l.fn.till) (g.T.Till.asks l.till);
  alone : g.T.Till.alone l.fn.till → g.T.Till.alone l.till × GrantsFirst (g.T.Till.mirrors l.fn.till) (g.T.Till.asks l.fn.till) (g.T.Till.asks l.till);
}
