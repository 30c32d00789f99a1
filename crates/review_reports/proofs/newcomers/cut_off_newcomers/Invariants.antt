use Rattle.std.proofs.Common.{◌≡◌, take}
use Rattle.review_reports.specs.Newcomers.{cut_off_among}
use Rattle.review_reports.proofs.newcomers.cut_off_newcomers.Given as goal

abbrev pub invariant-loop-review : goal.invariant-loop-review
invariant-loop-review l =
    l.cut_off.items ≡ cut_off_among l.before.catalogue.now l.before.tracks.now l.after (take l.review-index l.after)
