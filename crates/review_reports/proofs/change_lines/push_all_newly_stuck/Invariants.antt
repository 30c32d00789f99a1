use Rattle.std.proofs.Common.{◌≡◌, ◌++◌, take}
use Rattle.review_reports.specs.ChangeLines.{newly_stuck_lines}
use Rattle.review_reports.proofs.change_lines.push_all_newly_stuck.Given as goal

abbrev pub invariant-loop-change : goal.invariant-loop-change
invariant-loop-change l = l.text.items ≡ l.initial.text.items ++ newly_stuck_lines l.catalogue (take l.change-index l.changes)
