use Rattle.review_reports.proofs.change_objects.push_cut_off_object.Goals as goal

pub returns : goal.returns
returns c = rw (← c.as_str.ensures, ← c.cohort_name.ensures, ← c.lane_word.ensures) c.push_object.ensures
