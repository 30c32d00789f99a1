use Rattle.std.proofs.Common.{◌≡◌, ◌-◌, ◌^◌, min, sum, take}
use Rattle.tallies.proofs.totals.Totals.all_replies.Given as goal

abbrev pub invariant-loop-replies : goal.invariant-loop-replies
invariant-loop-replies l = l.all ≡ min (sum (take l.replies-index l.replies-items)) (2 ^ 64 - 1)
