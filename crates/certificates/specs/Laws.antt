-- What holds of all certificates.
use Rattle.std.specs.Prelude.{◌≡◌, ℕ, ◌<◌, ⊤, List, length, MatchOption, Ok, Some}
use Rattle.std.specs.List.{AllByRecursion}
use Rattle.catalogue.specs.Validity.{IsValid}
use Rattle.catalogue.specs.declared.content.App.{App}
use Rattle.catalogue.specs.declared.content.Cohort.{Cohort}
use Rattle.catalogue.specs.declared.content.Release.{Release}
use Rattle.payload_graph.specs.declared.payload.TrackKey.{TrackKey}
use Rattle.payload_graph.specs.Net.{Net, net_among}
use Rattle.price_cert.specs.declared.row.Prices.{Prices}
use Rattle.price_cert.specs.declared.row.Row.{Row}
use Rattle.price_cert.specs.declared.row.Row.TheVariants.{Nothing, End, Price}
use Rattle.certificates.specs.Forms.{price_bound}
use Rattle.certificates.specs.Reading.{prices_of_string, read_body}
use Rattle.certificates.specs.Strings.{string_among, string_of}

-- bytes that are read are the certificate of the rows that they give
abbrev pub ReadIsWritten : Type 0
ReadIsWritten =
    (app : App) (cohort : Cohort) (key : TrackKey) (target : Release) (text : List ℕ) (rows : List Row) →
    read_body app cohort key target text ≡ Ok rows → string_of app cohort key target rows ≡ text

-- a row that a line can state: its price is below the bound, and it leads to a release
abbrev pub IsStatable : ℕ → Row → Type 0
IsStatable count Nothing = ⊤
IsStatable count End = ⊤
IsStatable count (Price price kind to) = (price < price_bound) × (to < count)

-- the rows of a table that a certificate can state: one such row for each release
pub record AreStatable (count : ℕ) (rows : List Row) : Type 0 where
  pub sized : length rows ≡ count
  pub each : AllByRecursion (IsStatable count) rows

-- in a content that edits make, a table of a track with a target has a certificate, and reading that
-- gives the table
abbrev pub WrittenIsRead : Type 0
WrittenIsRead =
    (apps : List App) (net : Net) (prices : Prices) →
    IsValid apps →
    net_among apps net.key ≡ Some net →
    prices.key ≡ net.key →
    AreStatable (length net.doors) prices.rows →
    MatchOption (string_among apps prices) ⊥ (λ text. prices_of_string apps net text ≡ Ok prices)
