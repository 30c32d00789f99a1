use Rattle.std.proofs.Common.{◌≡◌, ◌++◌, [], cond, take}
use Rattle.std.specs.List.{flat_map}
use Rattle.review_reports.specs.Changes.{are_same_clients, changes_of_pair}
use Rattle.reviews.specs.declared.review.TrackReview.{TrackReview}
use Rattle.review_reports.proofs.comparing.push_track.Given as goal

abbrev pub invariant-loop-from : goal.invariant-loop-from
invariant-loop-from l =
    l.changes.items
    ≡ l.initial.changes.items
    ++ flat_map
    (λ (old : TrackReview). cond (are_same_clients l.before.tracks.now l.after.tracks.now old l.new) (changes_of_pair l.before.catalogue.now l.after.catalogue.now old l.new) [])
    (take l.from l.before.tracks.now)
