use Rattle.std.proofs.Common.{◌≡◌, ◌++◌, take}
use Rattle.review_reports.specs.ChangeObjects.{offer_objects}
use Rattle.review_reports.proofs.change_objects.push_offer_objects.Given as goal

abbrev pub invariant-loop-change : goal.invariant-loop-change
invariant-loop-change l = l.text.items ≡ l.initial.text.items ++ offer_objects l.catalogue (take l.change-index l.changes)
