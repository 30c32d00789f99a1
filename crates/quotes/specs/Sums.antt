-- Least sums on a track: over chains of payloads that the rules permit.
use Rattle.std.specs.Prelude.{◌≡◌, ℕ, ◌<◌, ◌≤◌, List, length, Option, None, Some}
use Rattle.catalogue.specs.Validity.{IsValidApp}
use Rattle.catalogue.specs.declared.content.App.{App}
use Rattle.payload_graph.specs.Chains.{IsChain, sum_of}
use Rattle.payload_graph.specs.declared.payload.Payload.{Payload}
use Rattle.payload_graph.specs.declared.payload.TrackKey.{TrackKey}
use Rattle.payload_graph.specs.declared.place.Place.{Place}
use Rattle.payload_graph.specs.declared.place.Place.TheVariants.{At}
use Rattle.payload_graph.specs.Net.{Net, net_in}
use Rattle.price_cert.specs.Laws.{ArePrices}
use Rattle.price_cert.specs.Rows.{price_at}
use Rattle.price_cert.specs.declared.row.Row.{Row}

-- no chain leads a client from a place to the target
abbrev pub HasNoChain : App → TrackKey → Place → Type 0
HasNoChain app key place = (payloads : List Payload) → ¬ (IsChain app key place payloads)

-- the least sum from a place: that of some chain, and no chain has a smaller one
pub record IsLeast (app : App) (key : TrackKey) (place : Place) (sum : ℕ) : Type 0 where
  pub chain : List Payload
  pub leads : IsChain app key place chain
  pub costs : sum_of app chain ≡ sum
  pub least : (payloads : List Payload) → IsChain app key place payloads → sum ≤ sum_of app payloads

-- a price is the least sum from a place, and without a price there is no chain
abbrev pub IsPriceOf : App → TrackKey → Place → Option ℕ → Type 0
IsPriceOf app key place None = HasNoChain app key place
IsPriceOf app key place (Some price) = IsLeast app key place price

-- the prices of a track's graph are those of the track
abbrev pub PricesAreLeastOnTracks : Type 0
PricesAreLeastOnTracks =
    (app : App) (key : TrackKey) (net : Net) (rows : List Row) (release : ℕ) →
    IsValidApp app →
    net_in app key ≡ Some net →
    ArePrices net rows →
    release < length app.releases →
    IsPriceOf app key (At release) (price_at rows release)
