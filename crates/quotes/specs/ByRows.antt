-- What the rows of a track's table say of its clients at a place. At a release its own row decides; from outside the
-- least sum by a full package does. No chain is looked at. This project's profile.
use Rattle.std.specs.Prelude.{◌≡◌, ℕ, zero, suc, if◌then◌else◌, List, length, nat_lt, slice_get, Option, None, Some}
use Rattle.std.specs.Option.{option_map_or}
use Rattle.catalogue.specs.Validity.{IsValidApp}
use Rattle.catalogue.specs.declared.content.App.{App}
use Rattle.catalogue.specs.declared.content.Cohort.{Cohort}
use Rattle.cohorts.specs.Offers.{track_target}
use Rattle.payload_graph.specs.Places.{IsWithin}
use Rattle.payload_graph.specs.declared.payload.TrackKey.{TrackKey}
use Rattle.payload_graph.specs.declared.place.Place.{Place}
use Rattle.payload_graph.specs.declared.place.Place.TheVariants.{At, Outside}
use Rattle.payload_graph.specs.Net.{Net, net_in}
use Rattle.price_cert.specs.Laws.{IsGraph}
use Rattle.price_cert.specs.Rows.{row_at}
use Rattle.price_cert.specs.Rules.{AreCertified}
use Rattle.price_cert.specs.declared.row.Row.{Row}
use Rattle.quotes.specs.Outside.{best_quote, sum_into}
use Rattle.quotes.specs.Quotes.{IsQuote, row_quote}
use Rattle.quotes.specs.declared.outside.Best.{Best}
use Rattle.quotes.specs.declared.quote.Quote.{Quote}
use Rattle.quotes.specs.declared.quote.Quote.TheVariants.{NoChain}

-- of two ways the one of the smaller sum, and of equal sums the second
abbrev pub smaller_way : Best → Best → Best
smaller_way first second = if nat_lt first.sum second.sum then first else second

-- the best way so far, beside the way to one more release, if that has a sum
abbrev pub beside : Option Best → ℕ → Option ℕ → Option Best
beside best to None = best
beside None to (Some sum) = Some (record { to = to; sum = sum })
beside (Some best) to (Some sum) = Some (smaller_way best (record { to = to; sum = sum }))

-- the best of the ways to the first releases of an app, by the sums of all
abbrev pub best_way : (ℕ → Option ℕ) → ℕ → Option Best
best_way sums zero = None
best_way sums (suc count) = beside (best_way sums count) count (sums count)

-- what the rows say of a version that is at no release, in a cohort
abbrev pub quote_in_cohort : App → TrackKey → List Row → List ℕ → Cohort → Quote
quote_in_cohort app key rows version cohort =
    option_map_or
    (λ target. best_quote (best_way (sum_into app.releases cohort key target version rows) (length app.releases)))
    (track_target app.releases cohort key.lane key.pin) NoChain

-- rule: Quote by rows
-- what the rows say of a place
abbrev pub quote_by_rows : App → TrackKey → List Row → Place → Quote
quote_by_rows app key rows (At release) = row_quote app.releases app.diffs release (row_at rows release)
quote_by_rows app key rows (Outside version) =
    option_map_or (quote_in_cohort app key rows version) (slice_get app.cohorts key.cohort) NoChain

-- the rows of a certified table say what a place's clients are offered
abbrev pub CertifiedRowsQuote : Type 0
CertifiedRowsQuote =
    (app : App) (key : TrackKey) (net : Net) (rows : List Row) (place : Place) →
    IsValidApp app →
    net_in app key ≡ Some net →
    IsGraph net →
    AreCertified net rows →
    IsWithin app.releases place →
    IsQuote app key place (quote_by_rows app key rows place)
