-- How the key of a certificate is read: its first five lines, by the names of a catalogue.
use Rattle.std.specs.Prelude.{◌≡◌, ℕ, Bool, if◌then◌else◌, codes, List, Option, None, Some, position, Result, Ok, Err}
use Rattle.std.specs.Str.{bytes_eq}
use Rattle.catalogue.specs.Lookups.{cohorts_at, is_cohort}
use Rattle.catalogue.specs.declared.content.App.{App}
use Rattle.cohorts.specs.declared.pin.Pin.TheVariants as pin
use Rattle.cohorts.specs.declared.track.Lane.{Lane}
use Rattle.cohorts.specs.declared.track.Lane.TheVariants as lane
use Rattle.payload_graph.specs.declared.payload.TrackKey.{TrackKey}
use Rattle.certificates.specs.Forms.{rest_of}
use Rattle.certificates.specs.Headings.{is_heading}
use Rattle.certificates.specs.Reading.{line_split, on_line}
use Rattle.certificates.specs.declared.fault.Fault.{Fault}
use Rattle.certificates.specs.declared.fault.Fault.TheVariants.{BadLine, NotOfThisGraph}
use Rattle.certificates.specs.declared.heading.Heading.{Heading}
use Rattle.certificates.specs.declared.heading.Heading.TheVariants as heading

-- a result is what reading gives; `view` is how a contract sees its value
abbrev pub IsRead : {X Y : Type 0} → (X → Y) → Result X Fault → Result Y Fault → Type 0
IsRead view (Ok value) reading = reading ≡ Ok (view value)
IsRead view (Err fault) reading = reading ≡ Err fault

-- what is after the first space of a heading, and what is after its line
abbrev pub value_of : Heading → ℕ → List ℕ → Result (List ℕ × List ℕ) Fault
value_of heading n text =
    on_line n (line_split text) (λ line rest.
    if is_heading heading line then Ok (rest_of line, rest) else Err (BadLine n))

-- a reading goes on with a value and what is after it
abbrev pub with_value : {A X : Type 0} → Result (X × List ℕ) Fault → (X → List ℕ → Result A Fault) → Result A Fault
with_value (Err fault) next = Err fault
with_value (Ok parts) next = next parts.0 parts.1

-- an index that is found, or the fault of a name that there isn't
abbrev pub found_at : ℕ → List ℕ → Option ℕ → Result (ℕ × List ℕ) Fault
found_at n rest None = Err (NotOfThisGraph n)
found_at n rest (Some index) = Ok (index, rest)

-- the app has the identifier in this spelling
abbrev pub is_named : List ℕ → App → Bool
is_named id app = bytes_eq id app.id

-- the index of the app, and what is after its line
abbrev pub app_of : List App → List ℕ → Result (ℕ × List ℕ) Fault
app_of apps text =
    with_value (value_of heading.Format 1 text) (λ format rest.
    with_value (value_of heading.App 2 rest) (λ id after.
    found_at 2 after (position (is_named id) apps)))

-- the index of the cohort, and what is after its line
abbrev pub cohort_of : List App → ℕ → List ℕ → Result (ℕ × List ℕ) Fault
cohort_of apps app text =
    with_value (value_of heading.Cohort 3 text) (λ name rest.
    found_at 3 rest (position (is_cohort name) (cohorts_at apps app)))

-- the lane of a word
abbrev pub lane_named : List ℕ → Lane
lane_named word = if bytes_eq word (codes "held") then lane.Held else lane.Target

-- the key of an app and a cohort by the lines of the lane and of the downgrade; a certificate is of clients
-- without a pin
abbrev pub key_of : ℕ → ℕ → List ℕ → Result TrackKey Fault
key_of app cohort text =
    with_value (value_of heading.Lane 4 text) (λ lane rest.
    with_value (value_of heading.Rollback 5 rest) (λ rollback after.
    Ok (record { app = app; cohort = cohort; lane = lane_named lane; rollback = bytes_eq rollback (codes "yes"); pin = pin.Any })))

-- rule: Key of a certificate
-- the key that the first five lines name in a content, or the first of them that is wrong
abbrev pub key_of_string : List App → List ℕ → Result TrackKey Fault
key_of_string apps text =
    with_value (app_of apps text) (λ app rest.
    with_value (cohort_of apps app rest) (λ cohort after.
    key_of app cohort after))
