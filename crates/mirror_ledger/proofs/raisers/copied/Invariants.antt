-- The copies so far are the first mirrors.
use Rattle.std.proofs.Common.{◌≡◌, take}
use Rattle.mirror_ledger.proofs.raisers.copied.Given as goal

abbrev pub invariant-loop-index : goal.invariant-loop-index
invariant-loop-index l = l.copies.items ≡ take l.index l.mirrors
