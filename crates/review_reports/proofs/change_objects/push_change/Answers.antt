use Rattle.review_reports.proofs.change_objects.push_change.Goals as goal

pub returns : goal.returns
returns c =
    rw (← c.bytes_if.ensures, ← c.as_str.ensures, ← c.bytes_was.ensures, ← c.cohort_name.ensures, ← c.change_kind.ensures, ← c.lane_word.ensures, ← c.spelled_at.ensures)
    c.push_object.ensures
