-- How a certificate is read: the table that its bytes state, or its first wrong line; this project's
-- profile. Lines are counted from 1.
use Rattle.std.specs.Prelude.{ℕ, ◌+◌, ◌==◌, ◌&&◌, ◌||◌, Bool, if◌then◌else◌, codes, List, [], ◌∷◌, ◌++◌, drop, take, Option, None, Some, option_and_then, option_map, position, slice_get, unwrap_or, Result, Ok, Err}
use Rattle.std.specs.Option.{is_some}
use Rattle.std.specs.Str.{bytes_eq, is_utf8}
use Rattle.catalogue.specs.declared.content.App.{App}
use Rattle.catalogue.specs.declared.content.Cohort.{Cohort}
use Rattle.catalogue.specs.declared.content.Release.{Release}
use Rattle.payload_graph.specs.declared.payload.TrackKey.{TrackKey}
use Rattle.payload_graph.specs.Net.{Net}
use Rattle.payload_graph.specs.declared.edge.Kind.{Kind}
use Rattle.payload_graph.specs.declared.edge.Kind.TheVariants as kind
use Rattle.price_cert.specs.declared.row.Prices.{Prices}
use Rattle.price_cert.specs.declared.row.Row.{Row}
use Rattle.price_cert.specs.declared.row.Row.TheVariants.{Nothing, End, Price}
use Rattle.certificates.specs.Forms.{first_of, is_either, is_version, number_below, price_bound, rest_of}
use Rattle.certificates.specs.Headings.{heading_line, headings, is_heading}
use Rattle.certificates.specs.Strings.{track_at}
use Rattle.certificates.specs.declared.fault.Fault.{Fault}
use Rattle.certificates.specs.declared.fault.Fault.TheVariants.{BadLine, NotOfThisGraph}
use Rattle.certificates.specs.declared.fault.Flaw.{Flaw}
use Rattle.certificates.specs.declared.fault.Flaw.TheVariants.{Form, Other}
use Rattle.certificates.specs.declared.heading.Heading.{Heading}

-- what a line states of a payload is well formed: a price, a kind and a version
abbrev pub is_payload : List ℕ → Bool
is_payload entry =
    is_some (number_below price_bound (first_of entry))
    && is_either (codes "full") (codes "diff") (first_of (rest_of entry))
    && is_version (rest_of (rest_of entry))

-- what a line states of its release is well formed
abbrev pub is_entry : List ℕ → Bool
is_entry entry = is_either (codes "none") (codes "0 end") entry || is_payload entry

-- the line of a release is well formed
abbrev pub is_row : List ℕ → Bool
is_row line = is_version (first_of line) && is_entry (rest_of line)

-- the kind of a word
abbrev pub kind_named : List ℕ → Kind
kind_named word = if bytes_eq word (codes "full") then kind.Full else kind.Differ

-- the release has the version in this spelling
abbrev pub is_spelled : List ℕ → Release → Bool
is_spelled spelled release = bytes_eq spelled release.spelled

-- the row of a payload, none if it leads to no release
abbrev pub payload_of : List Release → List ℕ → Option Row
payload_of releases entry =
    option_and_then (λ price.
    option_map (λ to. Price price (kind_named (first_of (rest_of entry))) to)
    (position (is_spelled (rest_of (rest_of entry))) releases))
    (number_below price_bound (first_of entry))

-- the row that a line states of its release
abbrev pub entry_of : List Release → List ℕ → Option Row
entry_of releases entry =
    if bytes_eq entry (codes "none") then Some Nothing
    else (if bytes_eq entry (codes "0 end") then Some End else payload_of releases entry)

-- the row of the line of a release; none if it is another's
abbrev pub row_of : List Release → List ℕ → List ℕ → Option Row
row_of releases spelled line =
    if bytes_eq (first_of line) spelled then entry_of releases (rest_of line) else None

-- a value, or the flaw of a line that is of another graph
abbrev pub or_other : Option Row → Result Row Flaw
or_other None = Err Other
or_other (Some row) = Ok row

-- rule: Line of a release
-- the row that a line gives a release, or the line's flaw
abbrev pub read_row : List Release → List ℕ → List ℕ → Result Row Flaw
read_row releases spelled line =
    if is_utf8 line && is_row line then or_other (row_of releases spelled line) else Err Form

-- rule: Flaw of a heading
-- the flaw of a line that is not the one wanted: another line of its form, or none of it
abbrev pub heading_flaw : Heading → List ℕ → List ℕ → Option Flaw
heading_flaw heading line wanted =
    if bytes_eq line wanted then None else (if is_heading heading line then Some Other else Some Form)

-- rule: Fault of a certificate
-- the fault of a line with a flaw
abbrev pub fault_at : ℕ → Flaw → Fault
fault_at n Form = BadLine n
fault_at n Other = NotOfThisGraph n

-- a line feed
abbrev pub is_feed : ℕ → Bool
is_feed byte = byte == 10

-- the first line and what is after its line feed; none if no line feed ends it
abbrev pub line_split : List ℕ → Option (List ℕ × List ℕ)
line_split text = option_map (λ at. (take at text, drop (at + 1) text)) (position is_feed text)

-- a reading of a first line and the rest; a missing line is a fault
abbrev pub on_line : {A : Type 0} → ℕ → Option (List ℕ × List ℕ) → (List ℕ → List ℕ → Result A Fault) → Result A Fault
on_line n None reading = Err (BadLine n)
on_line n (Some parts) reading = reading parts.0 parts.1

-- a reading goes on after a line without a flaw
abbrev pub past_heading : ℕ → Option Flaw → Result (List ℕ) Fault → Result (List ℕ) Fault
past_heading n None reading = reading
past_heading n (Some flaw) reading = Err (fault_at n flaw)

-- what is after the headings, or the first wrong line
unfoldable pub read_headings : App → Cohort → TrackKey → Release → List Heading → ℕ → List ℕ → Result (List ℕ) Fault
read_headings app cohort key target [] n text = Ok text
read_headings app cohort key target (heading ∷ others) n text =
    on_line n (line_split text) (λ line rest.
    past_heading n (heading_flaw heading line (heading_line app cohort key target heading))
    (read_headings app cohort key target others (n + 1) rest))

-- a row before the others
abbrev pub with_row : ℕ → Result Row Flaw → Result (List Row) Fault → Result (List Row) Fault
with_row n (Err flaw) reading = Err (fault_at n flaw)
with_row n (Ok row) (Ok rows) = Ok (row ∷ rows)
with_row n (Ok row) (Err fault) = Err fault

-- the rows of the releases that are left, or the first wrong line; nothing may be left over
unfoldable pub read_rows : List Release → List Release → ℕ → List ℕ → Result (List Row) Fault
read_rows releases [] n [] = Ok []
read_rows releases [] n (byte ∷ text) = Err (BadLine n)
read_rows releases (release ∷ others) n text =
    on_line n (line_split text) (λ line rest.
    with_row n (read_row releases release.spelled line) (read_rows releases others (n + 1) rest))

-- the rows after the headings
abbrev pub rows_after : List Release → Result (List ℕ) Fault → Result (List Row) Fault
rows_after releases (Err fault) = Err fault
rows_after releases (Ok text) = read_rows releases releases 8 text

-- rule: Reading of a certificate
-- the rows of a certificate, or its first wrong line
abbrev pub read_body : App → Cohort → TrackKey → Release → List ℕ → Result (List Row) Fault
read_body app cohort key target text =
    rows_after app.releases (read_headings app cohort key target headings 1 text)

-- the table of a key and rows
abbrev pub table_of : TrackKey → Result (List Row) Fault → Result Prices Fault
table_of key (Err fault) = Err fault
table_of key (Ok rows) = Ok (record { key = key; rows = rows })

-- rows before those of a reading
abbrev pub with_rows : List Row → Result (List Row) Fault → Result (List Row) Fault
with_rows rows (Ok others) = Ok (rows ++ others)
with_rows rows (Err fault) = Err fault

-- the reading of a graph's track, none if a content has no such track
abbrev pub read_among : List App → Net → List ℕ → Option (Result Prices Fault)
read_among apps net text =
    option_and_then (λ (track : App × Cohort).
    option_map (λ (target : Release). table_of net.key (read_body track.0 track.1 net.key target text))
    (slice_get track.0.releases net.target))
    (track_at apps net.key)

-- rule: Table of a certificate
-- the table that a certificate states for a graph, or its first wrong line; the first line is wrong for
-- a graph of another catalogue
abbrev pub prices_of_string : List App → Net → List ℕ → Result Prices Fault
prices_of_string apps net text = unwrap_or (read_among apps net text) (Err (BadLine 1))
