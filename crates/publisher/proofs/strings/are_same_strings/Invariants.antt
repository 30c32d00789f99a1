use Rattle.std.proofs.Common.{◌≡◌, take}
use Rattle.publisher.proofs.strings.are_same_strings.Given as goal

abbrev pub invariant-loop-index : goal.invariant-loop-index
invariant-loop-index l = take l.index l.one ≡ take l.index l.other
