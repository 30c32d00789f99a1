use Rattle.review_reports.proofs.change_objects.push_outcome.Goals as goal

pub returns-in-Stuck : goal.returns-in-Stuck
returns-in-Stuck c = rw c.in-Stuck.is c.push_stuck_object.ensures
