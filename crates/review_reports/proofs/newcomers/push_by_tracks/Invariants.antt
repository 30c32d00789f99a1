use Rattle.std.proofs.Common.{◌≡◌, ◌++◌, take}
use Rattle.std.specs.List.{flat_map}
use Rattle.review_reports.specs.Newcomers.{cut_off_between}
use Rattle.review_reports.proofs.newcomers.push_by_tracks.Given as goal

abbrev pub invariant-loop-review : goal.invariant-loop-review
invariant-loop-review l =
    l.cut_off.items ≡ l.initial.cut_off.items ++ flat_map (cut_off_between l.before l.after l.new) (take l.review-index l.before)
