use Rattle.std.proofs.Common.{◌≡◌, take}
use Rattle.review_reports.specs.Changes.{changes_from}
use Rattle.review_reports.proofs.comparing.changes.Given as goal

abbrev pub invariant-loop-index : goal.invariant-loop-index
invariant-loop-index l =
    l.changes.items
    ≡ changes_from l.before.catalogue.now l.after.catalogue.now l.before.tracks.now l.after.tracks.now (take l.index l.after.tracks.now)
