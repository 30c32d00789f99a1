use Rattle.std.proofs.Common.{◌≡◌, ◌++◌, take}
use Rattle.review_reports.specs.ChangeObjects.{newly_stuck_objects}
use Rattle.review_reports.proofs.change_objects.push_newly_stuck_objects.Given as goal

abbrev pub invariant-loop-change : goal.invariant-loop-change
invariant-loop-change l = l.text.items ≡ l.initial.text.items ++ newly_stuck_objects l.catalogue (take l.change-index l.changes)
