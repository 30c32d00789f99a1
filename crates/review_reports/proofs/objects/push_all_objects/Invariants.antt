use Rattle.std.proofs.Common.{◌≡◌, ◌++◌, take}
use Rattle.review_reports.specs.Objects.{all_objects}
use Rattle.review_reports.proofs.objects.push_all_objects.Given as goal

abbrev pub invariant-loop-review : goal.invariant-loop-review
invariant-loop-review l = l.text.items ≡ l.initial.text.items ++ all_objects l.catalogue (take l.review-index l.reviews)
