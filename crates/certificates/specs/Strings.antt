-- The bytes of a table: its headings and a line for each release, each ended by a line feed; this
-- project's profile.
use Rattle.std.specs.Prelude.{ℕ, ◌+◌, codes, decimal, List, [], ◌∷◌, ◌++◌, Option, option_and_then, option_map, slice_get}
use Rattle.std.specs.Option.{option_map_or}
use Rattle.catalogue.specs.declared.content.App.{App}
use Rattle.catalogue.specs.declared.content.Cohort.{Cohort}
use Rattle.catalogue.specs.declared.content.Release.{Release}
use Rattle.payload_graph.specs.Chains.{cohort_target}
use Rattle.payload_graph.specs.declared.payload.TrackKey.{TrackKey}
use Rattle.payload_graph.specs.declared.edge.Kind.{Kind}
use Rattle.payload_graph.specs.declared.edge.Kind.TheVariants as kind
use Rattle.price_cert.specs.declared.row.Prices.{Prices}
use Rattle.price_cert.specs.declared.row.Row.{Row}
use Rattle.price_cert.specs.declared.row.Row.TheVariants.{Nothing, End, Price}
use Rattle.certificates.specs.Headings.{heading_line, headings}
use Rattle.certificates.specs.declared.heading.Heading.{Heading}

-- the version of a release, as it was added; nothing if there is no such release
abbrev pub spelled_at : List Release → ℕ → List ℕ
spelled_at releases index = option_map_or (λ (release : Release). release.spelled) (slice_get releases index) []

-- how a full package and a differential are spelled
abbrev pub kind_word : Kind → List ℕ
kind_word kind.Full = codes "full"
kind_word kind.Differ = codes "diff"

-- what a line states of its release
abbrev pub entry_string : List Release → Row → List ℕ
entry_string releases Nothing = codes "none"
entry_string releases End = codes "0 end"
entry_string releases (Price price kind to) =
    decimal price ++ 32 ∷ (kind_word kind ++ 32 ∷ spelled_at releases to)

-- rule: Row of a certificate
-- the line of a release, without its line feed
abbrev pub row_line : List Release → ℕ → Row → List ℕ
row_line releases index row = spelled_at releases index ++ 32 ∷ entry_string releases row

-- a line with its line feed
abbrev pub ended : List ℕ → List ℕ
ended line = line ++ 10 ∷ []

-- the lines of rows, those of the releases from an index on
unfoldable pub rows_from : List Release → ℕ → List Row → List ℕ
rows_from releases index [] = []
rows_from releases index (row ∷ rows) = ended (row_line releases index row) ++ rows_from releases (index + 1) rows

-- the lines of headings
unfoldable pub headings_string : App → Cohort → TrackKey → Release → List Heading → List ℕ
headings_string app cohort key target [] = []
headings_string app cohort key target (heading ∷ others) =
    ended (heading_line app cohort key target heading) ++ headings_string app cohort key target others

-- rule: Bytes of a certificate
-- the bytes of a table of a track
abbrev pub string_of : App → Cohort → TrackKey → Release → List Row → List ℕ
string_of app cohort key target rows =
    headings_string app cohort key target headings ++ rows_from app.releases 0 rows

-- the app and the cohort of a key
abbrev pub track_at : List App → TrackKey → Option (App × Cohort)
track_at apps key =
    option_and_then (λ (app : App).
    option_map (λ (cohort : Cohort). (app, cohort)) (slice_get app.cohorts key.cohort))
    (slice_get apps key.app)

-- the release that the clients of a key are meant to have
abbrev pub target_at : App → Cohort → TrackKey → Option Release
target_at app cohort key = option_and_then (λ index. slice_get app.releases index) (cohort_target app cohort key)

-- the bytes of a table of a content, none if its track has no target
abbrev pub string_among : List App → Prices → Option (List ℕ)
string_among apps prices =
    option_and_then (λ (track : App × Cohort).
    option_map (λ (target : Release). string_of track.0 track.1 prices.key target prices.rows)
    (target_at track.0 track.1 prices.key))
    (track_at apps prices.key)
