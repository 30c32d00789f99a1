-- How the review of a change is written as JSON objects, one on each line; this project's profile.
use Rattle.std.specs.Prelude.{ℕ, if◌then◌else◌, codes, List, [], ◌++◌, length, nat_lt, Option, None, Some, option_and_then}
use Rattle.std.specs.List.{flat_map}
use Rattle.serde_json.specs.Data.{Data, boolean, member, no_members, object, string}
use Rattle.catalogue.specs.declared.content.App.{App}
use Rattle.review_reports.specs.ChangeLines.{bytes_before, bytes_of, is_newly_stuck, line_by, line_for, newly_stuck_total, was_stuck}
use Rattle.review_reports.specs.Lines.{lane_word}
use Rattle.reviews.specs.Names.{cohort_name, spelled_at}
use Rattle.review_reports.specs.Objects.{bytes_data, capped, object_line, stuck_data, whole}
use Rattle.review_reports.specs.ReviewLines.{release_total}
use Rattle.review_reports.specs.declared.change.Change.{Change}
use Rattle.review_reports.specs.declared.change.Clients.{Clients}
use Rattle.reviews.specs.declared.outcome.Outcome.{Outcome}
use Rattle.reviews.specs.declared.outcome.Outcome.TheVariants.{Here, Next, Stuck}
use Rattle.reviews.specs.declared.review.TrackReview.{TrackReview}

-- the bytes of clients up to the target, if they aren't stuck
abbrev pub bytes_if : Outcome → Option ℕ
bytes_if Here = Some 0
bytes_if (Next payload sum) = Some sum
bytes_if (Stuck reason) = None

-- the kind of a change, by the bytes before it and after it
abbrev pub size_kind : ℕ → ℕ → List ℕ
size_kind before after =
    if nat_lt before after then codes "larger" else if nat_lt after before then codes "smaller" else codes "other"

-- the kind of a change; a release that was stuck is freed
abbrev pub change_kind : Change → List ℕ
change_kind change =
    if was_stuck change.was then codes "freed" else size_kind (bytes_before change.was) (bytes_of change.becomes)

-- a changed release that isn't newly stuck, with the bytes before a change and after it
abbrev pub change_data : App → Change → Data
change_data app change =
    object
    (member (codes "after") (bytes_data (bytes_if change.becomes))
    (member (codes "app") (string app.id)
    (member (codes "before") (bytes_data (option_and_then bytes_if change.was))
    (member (codes "cohort") (string (cohort_name app change.clients.cohort))
    (member (codes "downgrade") (boolean change.clients.rollback)
    (member (codes "kind") (string (change_kind change))
    (member (codes "lane") (string (lane_word change.clients.lane))
    (member (codes "version") (string (spelled_at app change.release))
    no_members))))))))

-- the line of a release that is stuck after the change, by why it is
abbrev pub stuck_object : App → Change → Outcome → List ℕ
stuck_object app change Here = []
stuck_object app change (Next payload sum) = []
stuck_object app change (Stuck reason) =
    object_line (stuck_data app (codes "newly_stuck") change.clients change.release reason)

-- the line of a release that is newly stuck; none of any other
abbrev pub newly_stuck_object : App → Change → List ℕ
newly_stuck_object app change = if is_newly_stuck change then stuck_object app change change.becomes else []

-- the line of any other release
abbrev pub offer_object : App → Change → List ℕ
offer_object app change = if is_newly_stuck change then [] else object_line (change_data app change)

-- the lines of the newly stuck releases
abbrev pub newly_stuck_objects : List App → List Change → List ℕ
newly_stuck_objects apps changes = flat_map (line_by newly_stuck_object apps) changes

-- new clients who are cut off: of no version, and for no reason
abbrev pub cut_off_data : App → Clients → Data
cut_off_data app clients =
    object
    (member (codes "app") (string app.id)
    (member (codes "cohort") (string (cohort_name app clients.cohort))
    (member (codes "downgrade") (boolean clients.rollback)
    (member (codes "kind") (string (codes "newly_stuck"))
    (member (codes "lane") (string (lane_word clients.lane))
    no_members)))))

-- their line
abbrev pub cut_off_object : App → Clients → List ℕ
cut_off_object app clients = object_line (cut_off_data app clients)

-- the lines of the new clients who are cut off
abbrev pub cut_off_objects : List App → List Clients → List ℕ
cut_off_objects apps cut_off = flat_map (line_for cut_off_object apps) cut_off

-- the lines of the other releases
abbrev pub offer_objects : List App → List Change → List ℕ
offer_objects apps changes = flat_map (line_by offer_object apps) changes

-- how many tracks there are after the change, how many releases they have, how many have changed, and how many are
-- newly stuck, with the new clients
abbrev pub change_summary : List TrackReview → List Change → List Clients → Data
change_summary reviews changes cut_off =
    object
    (member (codes "changed") (whole (length changes))
    (member (codes "kind") (string (codes "summary"))
    (member (codes "newly_stuck") (whole (capped (newly_stuck_total changes cut_off)))
    (member (codes "releases") (whole (capped (release_total reviews)))
    (member (codes "tracks") (whole (length reviews))
    no_members)))))

-- rule: Change as JSON
-- first the newly stuck releases, then the new clients who are cut off, then the other changed releases, in their orders,
-- and the summary
abbrev pub change_objects : List App → List TrackReview → List Change → List Clients → List ℕ
change_objects apps reviews changes cut_off =
    newly_stuck_objects apps changes
    ++ (cut_off_objects apps cut_off
    ++ (offer_objects apps changes ++ object_line (change_summary reviews changes cut_off)))
