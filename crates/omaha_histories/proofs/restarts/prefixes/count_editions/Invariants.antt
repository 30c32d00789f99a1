-- The editions that the records so far make, of which each makes one at most.
use Rattle.std.proofs.Common.{◌≡◌, ◌≤◌, take}
use Rattle.omaha_histories.specs.Numbering.{editions_in}
use Rattle.omaha_histories.proofs.restarts.prefixes.count_editions.Given as goal

abbrev pub invariant-loop-entry : goal.invariant-loop-entry
invariant-loop-entry l = (l.count ≡ editions_in (take l.entry-index l.records)) × (l.count ≤ l.entry-index)
