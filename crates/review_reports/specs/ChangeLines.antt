-- How the review of a change is printed; this project's profile.
use Rattle.std.specs.Prelude.{ℕ, ◌+◌, ◌&&◌, not, Bool, false, if◌then◌else◌, codes, decimal, List, [], ◌++◌, length, nat_lt, slice_get, Option}
use Rattle.std.specs.List.{count_by, flat_map}
use Rattle.std.specs.Option.{option_map_or}
use Rattle.catalogue.specs.declared.content.App.{App}
use Rattle.review_reports.specs.Lines.{line_string, stuck_release, stuck_word, track_string}
use Rattle.reviews.specs.Names.{spelled_at}
use Rattle.review_reports.specs.ReviewLines.{totals_string}
use Rattle.reviews.specs.Reviews.{is_stuck}
use Rattle.review_reports.specs.declared.change.Change.{Change}
use Rattle.review_reports.specs.declared.change.Clients.{Clients}
use Rattle.reviews.specs.declared.review.TrackReview.{TrackReview}
use Rattle.reviews.specs.declared.outcome.Outcome.{Outcome}
use Rattle.reviews.specs.declared.outcome.Outcome.TheVariants.{Here, Next, Stuck}

-- whether clients were stuck before a change; who was on no track wasn't
abbrev pub was_stuck : Option Outcome → Bool
was_stuck was = option_map_or is_stuck was false

-- rule: Newly stuck
-- a release is newly stuck if it is stuck after a change and was not before it
abbrev pub is_newly_stuck : Change → Bool
is_newly_stuck change = is_stuck change.becomes && not (was_stuck change.was)

-- how many releases are newly stuck, and how many new clients are cut off, of one track each
abbrev pub newly_stuck_total : List Change → List Clients → ℕ
newly_stuck_total changes cut_off = count_by is_newly_stuck changes + length cut_off

-- how many bytes clients download up to the target; 0 if they are stuck
abbrev pub bytes_of : Outcome → ℕ
bytes_of Here = 0
bytes_of (Next payload sum) = sum
bytes_of (Stuck reason) = 0

-- what an outcome is printed as
abbrev pub outcome_string : Outcome → List ℕ
outcome_string Here = codes "0 bytes"
outcome_string (Next payload sum) = decimal sum ++ codes " bytes"
outcome_string (Stuck reason) = codes "stuck"

-- the same of where clients were, if they were on a track
abbrev pub bytes_before : Option Outcome → ℕ
bytes_before was = option_map_or bytes_of was 0

abbrev pub string_before : Option Outcome → List ℕ
string_before was = option_map_or outcome_string was (codes "none")

-- the word of a line, by the bytes before a change and after it
abbrev pub size_word : ℕ → ℕ → List ℕ
size_word before after =
    if nat_lt before after then codes "larger " else if nat_lt after before then codes "smaller" else codes "other  "

-- the word of the line of a change; a release that was stuck is freed
abbrev pub change_word : Change → List ℕ
change_word change =
    if was_stuck change.was then codes "freed  " else size_word (bytes_before change.was) (bytes_of change.becomes)

-- a release, with what its clients download before a change and after it
abbrev pub change_facts : App → Change → List ℕ
change_facts app change =
    spelled_at app change.release ++ (codes ", " ++ (string_before change.was ++ (codes " to " ++ outcome_string change.becomes)))

-- the line of a release that is stuck after the change, by why it is
abbrev pub stuck_line : App → Change → Outcome → List ℕ
stuck_line app change Here = []
stuck_line app change (Next payload sum) = []
stuck_line app change (Stuck reason) =
    line_string stuck_word (track_string app change.clients) (stuck_release app change.release reason)

-- the line of a release that is newly stuck; none of any other
abbrev pub newly_stuck_line : App → Change → List ℕ
newly_stuck_line app change = if is_newly_stuck change then stuck_line app change change.becomes else []

-- the line of any other release
abbrev pub offer_line : App → Change → List ℕ
offer_line app change =
    if is_newly_stuck change then [] else line_string (change_word change) (track_string app change.clients) (change_facts app change)

-- a line by the app of a change; none if the app isn't there
abbrev pub line_by : (App → Change → List ℕ) → List App → Change → List ℕ
line_by line apps change = option_map_or (λ (app : App). line app change) (slice_get apps change.clients.app) []

-- the lines of the newly stuck releases
abbrev pub newly_stuck_lines : List App → List Change → List ℕ
newly_stuck_lines apps changes = flat_map (line_by newly_stuck_line apps) changes

-- the line of new clients who are cut off
abbrev pub cut_off_line : App → Clients → List ℕ
cut_off_line app clients = line_string stuck_word (track_string app clients) (codes "new clients")

-- a line by the app of clients; none if the app isn't there
abbrev pub line_for : (App → Clients → List ℕ) → List App → Clients → List ℕ
line_for line apps clients = option_map_or (λ (app : App). line app clients) (slice_get apps clients.app) []

-- the lines of the new clients who are cut off
abbrev pub cut_off_lines : List App → List Clients → List ℕ
cut_off_lines apps cut_off = flat_map (line_for cut_off_line apps) cut_off

-- the lines of the other releases
abbrev pub offer_lines : List App → List Change → List ℕ
offer_lines apps changes = flat_map (line_by offer_line apps) changes

-- how many tracks there are after the change, how many releases they have, how many have changed, and how many are
-- newly stuck, with the new clients
abbrev pub change_counts : List TrackReview → List Change → List Clients → List ℕ
change_counts reviews changes cut_off =
    totals_string reviews ++ (codes ", " ++ (decimal (length changes) ++ (codes " changed, "
    ++ (decimal (newly_stuck_total changes cut_off) ++ codes " newly stuck\n"))))

-- rule: Printed change
-- first the newly stuck releases, then the new clients who are cut off, then the other changed releases, in their orders,
-- and the line of counts; by the catalogue after the change and its reviews
abbrev pub change_string : List App → List TrackReview → List Change → List Clients → List ℕ
change_string apps reviews changes cut_off =
    newly_stuck_lines apps changes
    ++ (cut_off_lines apps cut_off ++ (offer_lines apps changes ++ change_counts reviews changes cut_off))
