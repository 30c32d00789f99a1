use Rattle.std.proofs.Common.{rules}
use Rattle.catalogue.proofs.edits.diffs.AddDiff.check.Goals as goal

pub returns-then-has_diff : goal.returns-then-has_diff
returns-then-has_diff c = search rules
