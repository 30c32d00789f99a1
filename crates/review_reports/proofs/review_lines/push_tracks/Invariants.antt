use Rattle.std.proofs.Common.{◌≡◌, ◌++◌, take}
use Rattle.review_reports.specs.ReviewLines.{all_lines}
use Rattle.review_reports.proofs.review_lines.push_tracks.Given as goal

abbrev pub invariant-loop-review : goal.invariant-loop-review
invariant-loop-review l = l.text.items ≡ l.initial.text.items ++ all_lines l.catalogue l.limit (take l.review-index l.reviews)
