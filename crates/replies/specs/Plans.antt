-- What is chosen for each app of a request; this project's profile.
use Rattle.std.specs.Prelude.{◌≡◌, ◌≢◌, ℕ, ◌⊎◌, not, Bool, false, if◌then◌else◌, All, AllPairs, Any, List, map, IfSome, MatchOption, Option, Some, None, option_and_then, option_map, slice_get}
use Rattle.std.specs.List.{AllZip}
use Rattle.std.specs.Option.{option_map_or}
use Rattle.catalogue.specs.declared.content.App.{App}
use Rattle.omaha_json.specs.declared.request.AppAsk.{AppAsk}
use Rattle.omaha_json.specs.declared.request.Check.{Check}
use Rattle.omaha_json.specs.declared.request.Request.{Request}
use Rattle.payload_graph.specs.Chains.{IsAtTarget, bytes_of}
use Rattle.payload_graph.specs.Places.{place_of}
use Rattle.payload_graph.specs.declared.payload.Payload.{Payload}
use Rattle.payload_graph.specs.declared.payload.TrackKey.{TrackKey}
use Rattle.payload_graph.specs.declared.place.Place.{Place}
use Rattle.payload_graph.specs.Net.{net_among}
use Rattle.price_cert.specs.Tables.{Certificate}
use Rattle.par_tables.specs.Tables.{IsTable}
use Rattle.quotes.specs.Quotes.{IsFirst}
use Rattle.quotes.specs.Sums.{HasNoChain}
use Rattle.replies.specs.Clients.{Client, IsAssigned, client_of, is_pinned, key_of}
use Rattle.replies.specs.declared.choices.Choice.{Choice}
use Rattle.replies.specs.declared.choices.Plan.{Plan}
use Rattle.replies.specs.declared.client.Assignment.{Assignment}

-- an update check that isn't disabled
abbrev pub is_open : Check → Bool
is_open check = not check.disabled

-- rule: App that wants an update
-- the app wants an update
abbrev pub wants_update : AppAsk → Bool
wants_update ask = option_map_or is_open ask.check false

-- the client that wants an update, none if its app is unknown or it wants none
abbrev pub client_to_update : List App → List ℕ → AppAsk → Option Client
client_to_update apps session ask = if wants_update ask then client_of apps session ask else None

-- rule: Requested bytes
-- a payload that is offered: the first one of a chain of the least sum, with its own bytes
pub record IsOffer (app : App) (key : TrackKey) (place : Place) (choice : Choice) : Type 0 where
  pub sum : ℕ
  pub first : IsFirst app key place choice.payload sum
  pub bytes : choice.bytes ≡ bytes_of app choice.payload

-- rule: No update
-- what is chosen for a client that wants an update: the first payload of a chain of the least sum; or
-- nothing, at the target or if no chain leads to it
abbrev pub IsChoice : App → TrackKey → Place → Option Choice → Type 0
IsChoice app key place None = IsAtTarget app key place ⊎ HasNoChain app key place
IsChoice app key place (Some choice) = IsOffer app key place choice

-- the same of a key's app in a content
abbrev pub IsChoiceAmong : List App → TrackKey → Place → Option Choice → Type 0
IsChoiceAmong apps key place choice = IfSome (slice_get apps key.app) (λ app. IsChoice app key place choice)

-- what is chosen for a client, at the place that it sent
abbrev pub IsClientChoice : Client → AppAsk → Option Choice → Type 0
IsClientChoice client ask choice =
    IsChoice client.app (key_of client) (place_of client.app.releases ask.fp ask.version) choice

-- the same of a client of a track, at the place that it sent, by the key of the track
abbrev pub IsTrackChoice : List App → TrackKey → AppAsk → Option Choice → Type 0
IsTrackChoice apps key ask choice =
    IfSome (slice_get apps key.app) (λ app. IsChoice app key (place_of app.releases ask.fp ask.version) choice)

-- the same by the client's assignment: nothing if its app is unknown or it wants no update
abbrev pub IsAssignedChoice : List App → AppAsk → Option Assignment → Option Choice → Type 0
IsAssignedChoice apps ask assigned choice =
    MatchOption (if wants_update ask then assigned else None) (choice ≡ None)
    (λ assignment. IsTrackChoice apps assignment.key ask choice)

-- rule: Chosen payload
-- what is chosen for an app of a session's request: nothing if the app is unknown or wants no update
abbrev pub IsChosen : List App → List ℕ → AppAsk → Option Choice → Type 0
IsChosen apps session ask choice =
    MatchOption (client_to_update apps session ask) (choice ≡ None) (λ client. IsClientChoice client ask choice)

-- what is chosen for each app of a request, in its order
abbrev pub IsPlan : List App → Request → List (Option Choice) → Type 0
IsPlan apps request plan = AllZip (IsChosen apps request.session) request.apps plan

-- the key of the track of a pinned client that wants an update
abbrev pub pinned_key : List App → List ℕ → AppAsk → Option TrackKey
pinned_key apps session ask =
    option_and_then (λ client. if is_pinned client then Some (key_of client) else None)
    (client_to_update apps session ask)

-- the table of a track is among some tables, if the track has a target
abbrev pub HasTable : List App → List Certificate → TrackKey → Type 0
HasTable apps tables key =
    IfSome (net_among apps key) (λ net. Any (λ (table : Certificate). table.net ≡ net) tables)

-- rule: Tables of a plan
-- the tables of a plan: for the track of each pinned client that wants an update one certified table, if the track has
-- a target
pub record ArePinnedTables (apps : List App) (session : List ℕ) (asks : List AppAsk) (tables : List Certificate) : Type 0 where
  pub certified : All IsTable tables
  pub own : All (λ (table : Certificate). net_among apps table.net.key ≡ Some table.net) tables
  pub each : All (λ (ask : AppAsk). IfSome (pinned_key apps session ask) (HasTable apps tables)) asks
  pub once : AllPairs (λ (table other : Certificate). table.net.key ≢ other.net.key) tables
  pub asked :
      All (λ (table : Certificate). Any (λ (ask : AppAsk). pinned_key apps session ask ≡ Some table.net.key) asks) tables

-- the plan of a request: the client of each of its apps, what is chosen for it, and the tables of pinned tracks
pub record IsPlanOf (apps : List App) (request : Request) (plan : Plan) : Type 0 where
  pub assigned : AllZip (IsAssigned apps request.session) request.apps plan.clients
  pub chosen : IsPlan apps request plan.choices
  pub priced : ArePinnedTables apps request.session request.apps plan.tables

-- the payload that was chosen, if any
abbrev pub payload_in : Option Choice → Option Payload
payload_in choice = option_map (λ chosen. chosen.payload) choice

-- the payloads of a plan
abbrev pub payloads_of : List (Option Choice) → List (Option Payload)
payloads_of plan = map payload_in plan
