use Rattle.std.proofs.Common.{◌≡◌, ◌++◌, take}
use Rattle.review_reports.specs.Objects.{stuck_objects}
use Rattle.review_reports.proofs.objects.push_stuck_objects.Given as goal

abbrev pub invariant-loop-one : goal.invariant-loop-one
invariant-loop-one l = l.text.items ≡ l.initial.text.items ++ stuck_objects l.app l.clients (take l.one-index l.stuck)
