use Rattle.std.proofs.Common.{◌≡◌, take}
use Rattle.review_reports.specs.Warnings.{warnings_string}
use Rattle.review_reports.proofs.warnings.write_warnings.Given as goal

abbrev pub invariant-loop-review : goal.invariant-loop-review
invariant-loop-review l = l.text.items ≡ warnings_string l.catalogue (take l.review-index l.reviews)
