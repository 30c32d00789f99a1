-- The seven lines before the rows of a certificate; this project's profile.
use Rattle.std.specs.Prelude.{ℕ, ◌&&◌, Bool, if◌then◌else◌, codes, decimal, List, [], ◌∷◌, ◌++◌, length}
use Rattle.std.specs.Option.{is_some}
use Rattle.std.specs.Str.{bytes_eq, is_utf8}
use Rattle.hex.specs.Hex.{encode_lower}
use Rattle.catalogue.specs.Forms.{hash_of, is_app_id, is_cohort_name}
use Rattle.catalogue.specs.declared.content.App.{App}
use Rattle.catalogue.specs.declared.content.Cohort.{Cohort}
use Rattle.catalogue.specs.declared.content.Release.{Release}
use Rattle.cohorts.specs.declared.track.Lane.{Lane}
use Rattle.cohorts.specs.declared.track.Lane.TheVariants as lane
use Rattle.payload_graph.specs.declared.payload.TrackKey.{TrackKey}
use Rattle.certificates.specs.Forms.{count_bound, first_of, is_either, is_version, number_below, rest_of}
use Rattle.certificates.specs.declared.heading.Heading.{Heading}
use Rattle.certificates.specs.declared.heading.Heading.TheVariants as heading

-- how a lane and a downgrade are spelled
abbrev pub lane_word : Lane → List ℕ
lane_word lane.Target = codes "target"
lane_word lane.Held = codes "held"

abbrev pub rollback_word : Bool → List ℕ
rollback_word rollback = if rollback then codes "yes" else codes "no"

-- rule: Heading of a certificate
-- the lines of a track, without their line feeds
abbrev pub heading_line : App → Cohort → TrackKey → Release → Heading → List ℕ
heading_line app cohort key target heading.Format = codes "prices 1"
heading_line app cohort key target heading.App = codes "app " ++ app.id
heading_line app cohort key target heading.Cohort = codes "cohort " ++ cohort.name
heading_line app cohort key target heading.Lane = codes "lane " ++ lane_word key.lane
heading_line app cohort key target heading.Rollback = codes "rollback " ++ rollback_word key.rollback
heading_line app cohort key target heading.Target =
    codes "target " ++ (target.spelled ++ 32 ∷ encode_lower target.hash)
heading_line app cohort key target heading.Rows = codes "rows " ++ decimal (length app.releases)

-- the word that a line begins with
abbrev pub heading_word : Heading → List ℕ
heading_word heading.Format = codes "prices"
heading_word heading.App = codes "app"
heading_word heading.Cohort = codes "cohort"
heading_word heading.Lane = codes "lane"
heading_word heading.Rollback = codes "rollback"
heading_word heading.Target = codes "target"
heading_word heading.Rows = codes "rows"

-- what follows it is well formed
abbrev pub has_value : Heading → List ℕ → Bool
has_value heading.Format value = bytes_eq value (codes "1")
has_value heading.App value = is_app_id value
has_value heading.Cohort value = is_cohort_name value
has_value heading.Lane value = is_either (codes "target") (codes "held") value
has_value heading.Rollback value = is_either (codes "yes") (codes "no") value
has_value heading.Target value = is_version (first_of value) && is_some (hash_of (rest_of value))
has_value heading.Rows value = is_some (number_below count_bound value)

-- the line is well formed
abbrev pub is_heading : Heading → List ℕ → Bool
is_heading heading line =
    is_utf8 line && bytes_eq (first_of line) (heading_word heading) && has_value heading (rest_of line)

-- the lines in their order
abbrev pub headings : List Heading
headings =
    heading.Format ∷ heading.App ∷ heading.Cohort ∷ heading.Lane ∷ heading.Rollback ∷ heading.Target
    ∷ heading.Rows ∷ []
