use Rattle.std.proofs.Common.{◌≡◌, take}
use Rattle.publisher.proofs.histories.is_same.Given as goal

abbrev pub invariant-loop-index : goal.invariant-loop-index
invariant-loop-index l = take l.index l.edits ≡ take l.index l.others
