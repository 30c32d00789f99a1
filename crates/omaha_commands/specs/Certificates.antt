-- The certificate of a track that an operator names, and whether a certificate is valid; this project's
-- profile.
use Rattle.std.specs.Prelude.{◌≡◌, ⊤, ◌⊎◌, ℕ, Bool, false, not, ◌&&◌, if◌then◌else◌, List, Option, None, Some, option_and_then, option_map, position, slice_get, Result, Ok, Err}
use Rattle.std.specs.Option.{option_map_or}
use Rattle.catalogue.specs.Lookups.{cohorts_at, is_app, is_cohort, releases_at}
use Rattle.catalogue.specs.declared.content.App.{App}
use Rattle.catalogue.specs.declared.content.Cohort.{Cohort}
use Rattle.cohorts.specs.declared.names.TrackNames.{TrackNames}
use Rattle.cohorts.specs.declared.pin.Pin.TheVariants as pin
use Rattle.payload_graph.specs.declared.payload.TrackKey.{TrackKey}
use Rattle.payload_graph.specs.Net.{Net, net_among}
use Rattle.price_cert.specs.Rules.{AreCertified, IsFirstWrong}
use Rattle.price_cert.specs.declared.row.Prices.{Prices}
use Rattle.price_cert.specs.declared.row.Row.{Row}
use Rattle.price_cert.specs.declared.rules.Wrong.{Wrong}
use Rattle.certificates.specs.Keys.{key_of_string}
use Rattle.certificates.specs.Reading.{prices_of_string}
use Rattle.certificates.specs.Strings.{spelled_at, string_among}
use Rattle.certificates.specs.declared.fault.Fault.{Fault}
use Rattle.certificates.specs.declared.fault.Fault.TheVariants as faults
use Rattle.values.specs.declared.read_error.ReadError.{ReadError}
use Rattle.values.specs.declared.read_error.ReadError.TheVariants as errors

-- the key of a cohort of an app; its clients have no pin
abbrev pub key_of : TrackNames → ℕ → ℕ → TrackKey
key_of names app cohort = record { app = app; cohort = cohort; lane = names.lane; rollback = names.rollback; pin = pin.Any }

-- rule: Named track
-- the key of the app and the cohort of those names, the app's in any case; none if they aren't there
abbrev pub key_named : List App → TrackNames → Option TrackKey
key_named apps names =
    option_and_then (λ app. option_map (key_of names app) (position (is_cohort names.cohort) (cohorts_at apps app)))
    (position (is_app names.app) apps)

-- the cohort of a key allows a downgrade
abbrev pub allows_downgrades : List App → TrackKey → Bool
allows_downgrades apps key =
    option_map_or (λ (app : App).
    option_map_or (λ (cohort : Cohort). cohort.rollback) (slice_get app.cohorts key.cohort) false)
    (slice_get apps key.app) false

-- rule: Table of a track
-- the graph that a track's table is of; none if the track has no target, or is of clients that allow a
-- downgrade though the cohort doesn't
abbrev pub table_net : List App → TrackKey → Option Net
table_net apps key = if key.rollback && not (allows_downgrades apps key) then None else net_among apps key

-- a table of a graph
abbrev pub prices_of : Net → List Row → Prices
prices_of net rows = record { key = net.key; rows = rows }

-- the bytes are those of the certified table of a graph
pub record IsCertificateOf (apps : List App) (net : Net) (text : List ℕ) : Type 0 where
  pub rows : List Row
  pub certified : AreCertified net rows
  pub written : string_among apps (prices_of net rows) ≡ Some text

-- rule: Certificate of a named track
-- the certificate of the track that the names choose; or there is no table of such a track; or out of memory
abbrev pub Certifies : List App → TrackNames → Result (List ℕ) (ReadError Fault) → Type 0
Certifies apps names (Ok text) =
    (net : Net) × (option_and_then (table_net apps) (key_named apps names) ≡ Some net) × IsCertificateOf apps net text
Certifies apps names (Err (errors.Fault faults.NoTrack)) = option_and_then (table_net apps) (key_named apps names) ≡ None
Certifies apps names (Err (errors.Fault other)) = ⊥
Certifies apps names (Err errors.Memory) = ⊤

-- the first wrong row of a certificate that can be read, by the release's version, and the first rule which that breaks
pub record HasWrong (apps : List App) (net : Net) (text : List ℕ) (fault : Fault) : Type 0 where
  pub prices : Prices
  pub wrong : Wrong
  pub read : prices_of_string apps net text ≡ Ok prices
  pub first : IsFirstWrong net prices.rows wrong
  pub says : fault ≡ faults.Wrong (spelled_at (releases_at apps net.key.app) wrong.row) wrong.rule

-- what is found of a certificate against the graph of its track: it is certified; or its first wrong line, or its
-- first wrong row
abbrev pub IsJudged : List App → Net → List ℕ → Result (Unit {0}) (ReadError Fault) → Type 0
IsJudged apps net text (Ok done) =
    (prices : Prices) × (prices_of_string apps net text ≡ Ok prices) × AreCertified net prices.rows
IsJudged apps net text (Err (errors.Fault fault)) =
    (prices_of_string apps net text ≡ Err fault) ⊎ HasWrong apps net text fault
IsJudged apps net text (Err errors.Memory) = ⊤

-- a certificate's key and the graph of its track's table are known, and what is found
abbrev pub IsFoundOf : List App → List ℕ → Option Net → Result (Unit {0}) (ReadError Fault) → Type 0
IsFoundOf apps text None found = (found ≡ Err (errors.Fault faults.NoTrack)) ⊎ (found ≡ Err errors.Memory)
IsFoundOf apps text (Some net) found = IsJudged apps net text found

-- rule: Valid certificate
-- what is found of a certificate: its first wrong line among those of its key; else that there is no table of
-- its track; else what is found against the graph of that
abbrev pub VerifiesBy : List App → List ℕ → Result TrackKey Fault → Result (Unit {0}) (ReadError Fault) → Type 0
VerifiesBy apps text (Err fault) found = found ≡ Err (errors.Fault fault)
VerifiesBy apps text (Ok key) found = IsFoundOf apps text (table_net apps key) found

abbrev pub Verifies : List App → List ℕ → Result (Unit {0}) (ReadError Fault) → Type 0
Verifies apps text found = VerifiesBy apps text (key_of_string apps text) found
