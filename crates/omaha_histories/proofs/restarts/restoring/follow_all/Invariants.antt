use Rattle.std.proofs.Common.{take}
use Rattle.omaha_histories.specs.Restarting.{FollowAll}
use Rattle.omaha_histories.proofs.restarts.restoring.follow_all.Given as goal

abbrev pub invariant-loop-index : goal.invariant-loop-index
invariant-loop-index l = FollowAll l.initial.draft (take l.index l.others) l.draft
