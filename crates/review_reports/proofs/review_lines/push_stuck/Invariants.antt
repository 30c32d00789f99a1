use Rattle.std.proofs.Common.{◌≡◌, ◌++◌, take}
use Rattle.review_reports.specs.ReviewLines.{stuck_lines}
use Rattle.review_reports.proofs.review_lines.push_stuck.Given as goal

abbrev pub invariant-loop-one : goal.invariant-loop-one
invariant-loop-one l = l.text.items ≡ l.initial.text.items ++ stuck_lines l.app l.track (take l.one-index l.stuck)
