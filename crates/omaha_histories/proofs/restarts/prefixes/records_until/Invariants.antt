-- The editions that the records so far make, and those that may still be made, are as many as are asked for.
use Rattle.std.proofs.Common.{◌≡◌, ◌+◌, take}
use Rattle.omaha_histories.specs.Numbering.{editions_in}
use Rattle.omaha_histories.proofs.restarts.prefixes.records_until.Given as goal

abbrev pub invariant-loop-index : goal.invariant-loop-index
invariant-loop-index l = l.left + editions_in (take l.index l.records) ≡ l.editions
