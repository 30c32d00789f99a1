use Rattle.std.proofs.Common.{◌≡◌, ◌*◌, ◌≤◌, take}
use Rattle.review_reports.specs.ReviewLines.{release_total}
use Rattle.review_reports.proofs.stuck.release_total.Given as goal

abbrev pub invariant-loop-review : goal.invariant-loop-review
invariant-loop-review l = record {
  is : l.total ≡ release_total (take l.review-index l.reviews);
  few : l.total ≤ l.review-index * 18446744073709551616;
}
