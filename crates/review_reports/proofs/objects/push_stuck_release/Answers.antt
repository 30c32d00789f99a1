use Rattle.review_reports.proofs.objects.push_stuck_release.Goals as goal

pub returns : goal.returns
returns c = c.push_stuck_object.ensures
