use Rattle.std.proofs.Common.{◌≡◌, take}
use Rattle.omaha_commands.specs.Summaries.{counts_of}
use Rattle.omaha_commands.proofs.reports.counting.counts_of.Given as goal

abbrev pub invariant-loop-app : goal.invariant-loop-app
invariant-loop-app l = l.counts ≡ counts_of (take l.app-index l.app-items)
