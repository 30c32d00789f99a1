use Rattle.review_reports.proofs.objects.push_track_object.Goals as goal

pub returns : goal.returns
returns c =
    rw (← c.as_str.ensures, ← c.cohort_name.ensures, ← c.lane_word.ensures, ← c.len.ensures, ← c.as_slice.ensures, ← c.count_stuck.ensures, ← c.spelled_at.ensures)
    c.push_object.ensures
