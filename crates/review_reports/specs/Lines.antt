-- The lines of reviews, one for each fact; this project's profile.
use Rattle.std.specs.Prelude.{ℕ, Bool, if◌then◌else◌, codes, List, ◌∷◌, ◌++◌}
use Rattle.catalogue.specs.declared.content.App.{App}
use Rattle.cohorts.specs.declared.track.Lane.{Lane}
use Rattle.cohorts.specs.declared.track.Lane.TheVariants as lane
use Rattle.reviews.specs.Names.{cohort_name, reason_string, spelled_at}
use Rattle.reviews.specs.declared.cause.Reason.{Reason}
use Rattle.review_reports.specs.declared.change.Clients.{Clients}

-- what a lane is printed as
abbrev pub lane_word : Lane → List ℕ
lane_word lane.Target = codes "target"
lane_word lane.Held = codes "held"

-- whether clients allow a downgrade: yes or no
abbrev pub downgrade_word : Bool → List ℕ
downgrade_word downgrade = if downgrade then codes "yes" else codes "no"

-- a track by its app, its cohort, its lane, and whether its clients allow a downgrade, as a certificate names it
abbrev pub track_string : App → Clients → List ℕ
track_string app clients =
    app.id ++ 32 ∷ (cohort_name app clients.cohort ++ 32 ∷ (lane_word clients.lane ++ 32 ∷ downgrade_word clients.rollback))

-- a stuck release, and why it is stuck
abbrev pub stuck_release : App → ℕ → Reason → List ℕ
stuck_release app release reason = spelled_at app release ++ (codes ", " ++ reason_string reason)

-- rule: Line of a review
-- a line: its word, of seven characters, so that the lines of a track are aligned; the track; and what is said of it
abbrev pub line_string : List ℕ → List ℕ → List ℕ → List ℕ
line_string word track says = word ++ 32 ∷ (track ++ (codes ": " ++ (says ++ codes "\n")))

-- how the lines begin
abbrev pub track_word : List ℕ
track_word = codes "track  "

abbrev pub stuck_word : List ℕ
stuck_word = codes "stuck  "

abbrev pub largest_word : List ℕ
largest_word = codes "largest"

abbrev pub longest_word : List ℕ
longest_word = codes "longest"

abbrev pub new_word : List ℕ
new_word = codes "new    "
