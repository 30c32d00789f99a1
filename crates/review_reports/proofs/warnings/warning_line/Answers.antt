use Rattle.review_reports.proofs.warnings.warning_line.Goals as goal

pub returns : goal.returns
returns c = rw (c.as_str-id.ensures, c.cohort_name-cohort.ensures, c.spelled_at-target.ensures) at c.format.ensures.ok
