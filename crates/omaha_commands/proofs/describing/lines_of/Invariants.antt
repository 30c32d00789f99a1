-- The lines so far are those of the first paths.
use Rattle.std.proofs.Common.{string_bytes, take}
use Rattle.omaha_commands.specs.Describing.{AreDescribed}
use Rattle.omaha_commands.proofs.describing.lines_of.Given as goal

abbrev pub invariant-loop-path : goal.invariant-loop-path
invariant-loop-path g l = AreDescribed (g.R.Folders.storage l.rt) (take l.path-index l.paths) (string_bytes l.lines)
