-- What a worker chooses for the apps of a request by tables of prices; no chain is looked at.
use Rattle.std.specs.Prelude.{◌≡◌, ℕ, ◌==◌, ◌&&◌, ◌⊎◌, Any, Bool, true, List, [], is_none, length, map, Option, None, Some, option_and_then}
use Rattle.std.specs.List.{list_all, range_with_len}
use Rattle.std.specs.Option.{option_map_or}
use Rattle.omaha_json.specs.declared.request.AppAsk.{AppAsk}
use Rattle.omaha_json.specs.declared.request.Request.{Request}
use Rattle.payload_graph.specs.Chains.{bytes_of}
use Rattle.payload_graph.specs.Net.{Net, net_in}
use Rattle.price_cert.specs.Rules.{broken_at}
use Rattle.price_cert.specs.Tables.{Certificate}
use Rattle.price_cert.specs.declared.row.Row.{Row}
use Rattle.quotes.specs.ByRows.{quote_by_rows}
use Rattle.quotes.specs.declared.quote.Quote.{Quote}
use Rattle.quotes.specs.declared.quote.Quote.TheVariants.{Here, Next, NoChain}
use Rattle.catalogue.specs.declared.content.App.{App}
use Rattle.replies.specs.Clients.{Client, key_of}
use Rattle.replies.specs.Plans.{client_to_update}
use Rattle.replies.specs.declared.choices.Choice.{Choice}
use Rattle.theorems.specs.Asks.{place_at}

-- the rows that a worker reads for each app that is asked for
abbrev pub Tables : Type 0
Tables = AppAsk → List Row

-- the rows pass the check for a graph: there is one for each release, and none breaks a rule
abbrev pub pass_check : Net → List Row → Bool
pass_check net rows =
    (length rows == length net.doors)
    && list_all (λ from. is_none (broken_at net rows from)) (range_with_len 0 (length net.doors))

-- the graph of a client's track, none if that has no target
abbrev pub graph_for : Client → Option Net
graph_for client = net_in client.app (key_of client)

-- the rows pass it for a client's track, if that has a target
abbrev pub are_rows_for : List Row → Client → Bool
are_rows_for rows client = option_map_or (λ net. pass_check net rows) (graph_for client) true

-- so do the rows for an app, if a client of it wants an update
abbrev pub are_rows_of : List App → List ℕ → Tables → AppAsk → Bool
are_rows_of apps session tables ask =
    option_map_or (are_rows_for (tables ask)) (client_to_update apps session ask) true

-- the rows for each app of a request pass the check
abbrev pub are_certified : List App → Request → Tables → Bool
are_certified apps request tables = list_all (are_rows_of apps request.session tables) request.apps

-- the payload of a quote, with its bytes
abbrev pub quoted_choice : App → Quote → Option Choice
quoted_choice app Here = None
quoted_choice app (Next payload sum) = Some (record { payload = payload; bytes = bytes_of app payload })
quoted_choice app NoChain = None

-- what rows say to a client at the place that it sent, if its track has a target
abbrev pub choice_for : AppAsk → List Row → Client → Option Choice
choice_for ask rows client =
    option_and_then
    (λ net. quoted_choice client.app (quote_by_rows client.app (key_of client) rows (place_at client ask)))
    (graph_for client)

-- the choice for an app, none if no client of it wants an update
abbrev pub choice_of : List App → List ℕ → Tables → AppAsk → Option Choice
choice_of apps session tables ask =
    option_and_then (choice_for ask (tables ask)) (client_to_update apps session ask)

-- rule: Choice by prices
-- the choice for each app of a request
abbrev pub choices_of : List App → Request → Tables → List (Option Choice)
choices_of apps request tables = map (choice_of apps request.session tables) request.apps

-- the rows are those of a stored table, or there are none
abbrev pub AreStored : List Certificate → List Row → Type 0
AreStored stored rows = (rows ≡ []) ⊎ Any (λ (table : Certificate). table.rows ≡ rows) stored

-- a plan is what certified rows of stored tables say
pub record IsByPrices (apps : List App) (request : Request) (stored : List Certificate) (plan : List (Option Choice)) : Type 0 where
  pub tables : Tables
  pub own : (ask : AppAsk) → AreStored stored (tables ask)
  pub certified : are_certified apps request tables ≡ true
  pub chosen : choices_of apps request tables ≡ plan
