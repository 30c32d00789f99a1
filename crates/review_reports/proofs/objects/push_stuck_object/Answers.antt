use Rattle.std.proofs.Common.{◌≡◌, rules}
use Rattle.reviews.specs.Names.{reason_string}
use Rattle.review_reports.proofs.objects.push_stuck_object.Goals as goal

pub returns : goal.returns
returns c =
    let printed : c.as_str-2.result.now ≡ reason_string c.args.reason = search rules in
    rw (← c.as_str.ensures, ← c.cohort_name.ensures, ← c.lane_word.ensures, ← printed, ← c.spelled_at.ensures)
    c.push_object.ensures
