use Rattle.review_reports.proofs.change_objects.push_summary.Goals as goal

pub returns : goal.returns
returns c = rw (← c.release_total.ensures, ← c.capped-releases.ensures, ← c.newly_stuck_total.ensures, ← c.capped-stuck.ensures) c.push_object.ensures
