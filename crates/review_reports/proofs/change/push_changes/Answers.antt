use Rattle.std.proofs.Common.{sym, ◌∙◌}
use Rattle.review_reports.specs.Changes.{change_at}
use Rattle.review_reports.proofs.ChangeLemmas.{filter_map-pushed}
use Rattle.review_reports.proofs.change.push_changes.Goals as goal

pub loop-index-preserved : goal.loop-index-preserved
loop-index-preserved c =
    c.in_ok-push_found.ensures
    ∙ filter_map-pushed (change_at c.args.before.now c.args.after.now c.args.old.now c.args.new.now) c.args.changes.now.items
    c.loop-index.changes.items c.loop-index.index c.change_at.result (sym c.change_at.ensures) c.loop-index.invariant
