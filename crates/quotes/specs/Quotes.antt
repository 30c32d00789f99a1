-- What the clients of a track at a place are offered: the first payload of a chain of the least sum.
use Rattle.std.specs.Prelude.{◌≡◌, ℕ, ◌+◌, ◌==◌, ◌&&◌, ◌||◌, Bool, true, List, nat_lt, slice_get, Option, Some, IfSome, option_and_then, option_map, position}
use Rattle.std.specs.Option.{option_map_or}
use Rattle.catalogue.specs.Lookups.{is_diff}
use Rattle.catalogue.specs.declared.content.App.{App}
use Rattle.catalogue.specs.declared.content.Diff.{Diff}
use Rattle.catalogue.specs.declared.content.Release.{Release}
use Rattle.payload_graph.specs.Chains.{IsAtTarget, bytes_of, destination_of}
use Rattle.payload_graph.specs.Permitted.{permits}
use Rattle.payload_graph.specs.declared.payload.Payload.{Payload}
use Rattle.payload_graph.specs.declared.payload.Payload.TheVariants.{Full, Differ}
use Rattle.payload_graph.specs.declared.payload.TrackKey.{TrackKey}
use Rattle.payload_graph.specs.declared.place.Place.{Place}
use Rattle.payload_graph.specs.declared.place.Place.TheVariants.{At}
use Rattle.payload_graph.specs.declared.edge.Kind.{Kind}
use Rattle.payload_graph.specs.declared.edge.Kind.TheVariants as kind
use Rattle.price_cert.specs.Rules.{is_same_kind}
use Rattle.price_cert.specs.declared.row.Row.{Row}
use Rattle.price_cert.specs.declared.row.Row.TheVariants.{Nothing, End, Price}
use Rattle.quotes.specs.Sums.{HasNoChain, IsLeast}
use Rattle.quotes.specs.declared.quote.Quote.{Quote}
use Rattle.quotes.specs.declared.quote.Quote.TheVariants.{Here, Next, NoChain}

-- whether a payload is a full package or a differential
abbrev pub kind_of : Payload → Kind
kind_of (Full release) = kind.Full
kind_of (Differ index) = kind.Differ

-- a payload leads lower than another, or to the same release and isn't a differential in its place
abbrev pub yields : App → Payload → Payload → Bool
yields app payload other =
    nat_lt (destination_of app payload) (destination_of app other)
    || (destination_of app payload == destination_of app other
    && (is_same_kind (kind_of other) kind.Differ || is_same_kind (kind_of payload) kind.Full))

-- a payload is permitted, and begins a chain of a sum that is the least one from where it leads
pub record Begins (app : App) (key : TrackKey) (place : Place) (payload : Payload) (sum : ℕ) : Type 0 where
  pub permitted : permits app key place payload ≡ true
  pub rest : ℕ
  pub rest_least : IsLeast app key (At (destination_of app payload)) rest
  pub adds_up : bytes_of app payload + rest ≡ sum

-- the first payload of a place: it begins a chain of the least sum, and all others that do yield to it
pub record IsFirst (app : App) (key : TrackKey) (place : Place) (payload : Payload) (sum : ℕ) : Type 0 where
  pub least : IsLeast app key place sum
  pub begins : Begins app key place payload sum
  pub first : (other : Payload) → Begins app key place other sum → yields app other payload ≡ true

-- rule: Quote
-- what a place's clients are offered: nothing at the target, else the first payload, else nothing since
-- no chain leads to the target
abbrev pub IsQuote : App → TrackKey → Place → Quote → Type 0
IsQuote app key place Here = IsAtTarget app key place
IsQuote app key place (Next payload sum) = ¬ (IsAtTarget app key place) × IsFirst app key place payload sum
IsQuote app key place NoChain = HasNoChain app key place

-- the same of a key's app in a content
abbrev pub IsQuoteAmong : List App → TrackKey → Place → Quote → Type 0
IsQuoteAmong apps key place quote = IfSome (slice_get apps key.app) (λ app. IsQuote app key place quote)

-- the payload that a row names by its kind and its destination
abbrev pub payload_named : List Release → List Diff → ℕ → Kind → ℕ → Option Payload
payload_named releases diffs from kind.Full to = Some (Full to)
payload_named releases diffs from kind.Differ to =
    option_and_then
    (λ start. option_and_then
    (λ end. option_map (λ index. Differ index) (position (is_diff (start.version, end.version)) diffs))
    (slice_get releases to))
    (slice_get releases from)

-- what a row of a release says
abbrev pub row_quote : List Release → List Diff → ℕ → Row → Quote
row_quote releases diffs from Nothing = NoChain
row_quote releases diffs from End = Here
row_quote releases diffs from (Price price kind to) =
    option_map_or (λ payload. Next payload price) (payload_named releases diffs from kind to) NoChain
