-- Each request has certified rows by each content, and they choose its plan.
use Rattle.std.proofs.Common.{◌≡◌, ℕ, Bool, true, List, [], ◌∷◌, Option, None, Some, refl, ap, ◌∙◌}
use Rattle.std.specs.List.{list_all}
use Rattle.std.specs.Option.{option_map_or}
use Rattle.std.proofs.lemmas.Bool.{and_from}
use Rattle.catalogue.specs.Histories.{HistoriesAreValid, History}
use Rattle.editions.specs.Editions.{content_of}
use Rattle.omaha_json.specs.declared.request.AppAsk.{AppAsk}
use Rattle.omaha_json.specs.declared.request.Request.{Request}
use Rattle.payload_graph.specs.Net.{Net}
use Rattle.price_cert.specs.declared.row.Row.{Row}
use Rattle.quotes.specs.ByRows.{CertifiedRowsQuote}
use Rattle.catalogue.specs.Validity.{IsValid}
use Rattle.catalogue.specs.declared.content.App.{App}
use Rattle.replies.specs.Clients.{Client, key_of}
use Rattle.replies.specs.Plans.{IsPlan, client_to_update}
use Rattle.replies.specs.declared.choices.Choice.{Choice}
use Rattle.solver.specs.Laws.{GraphsHaveTables}
use Rattle.theorems.specs.Laws.{PlansAreOne, TrackGraphsAreGraphs}
use Rattle.theorems.specs.Choices.{Tables, are_certified, are_rows_for, are_rows_of, choices_of, graph_for, pass_check}
use Rattle.theorems.specs.InterleavingLaws.{RequestsHaveRows}
use Rattle.theorems.proofs.EventChoiceLemmas.{IsPlan-choices_of}
use Rattle.theorems.proofs.ClientLemmas.{IsValidApp-client, Wants-client}
use Rattle.theorems.proofs.KeptLemmas.{IsValid-content}
use Rattle.theorems.proofs.PlanLemmas.{passed-AreCertified}

-- a test that holds of all items
all-pass : {A : Type 0} (test : A → Bool) → ((item : A) → test item ≡ true) → (items : List A) →
    list_all test items ≡ true
all-pass test holds [] = refl
all-pass test holds (item ∷ items) = and_from (test item) (list_all test items) (holds item) (all-pass test holds items)

module _ (graphs : TrackGraphsAreGraphs) (tables : GraphsHaveTables) (apps : List App) (valid : IsValid apps)
    (session : List ℕ) where
  -- rows for an ask
  abbrev RowsFor : AppAsk → Type 0
  RowsFor ask = (rows : List Row) × (are_rows_of apps session (λ (other : AppAsk). rows) ask ≡ true)

  rows-for : (ask : AppAsk) → RowsFor ask
  rows-for ask = by_client (client_to_update apps session ask) refl
    where
      by_graph : (client : Client) (net : Option Net) → client_to_update apps session ask ≡ Some client →
          graph_for client ≡ net → RowsFor ask
      by_graph client None is none = (
        [],
        ap (λ (o : Option Client). option_map_or (are_rows_for []) o true) is
            ∙ ap (λ (o : Option Net). option_map_or (λ (n : Net). pass_check n []) o true) none,
      )
      by_graph client (Some net) is made =
          let own = IsValidApp-client apps session ask client (Wants-client apps session ask client is) valid in
          let (rows, certified) = tables net (graphs client.app (key_of client) net own made) in (
            rows,
            ap (λ (o : Option Client). option_map_or (are_rows_for rows) o true) is
                ∙ ap (λ (o : Option Net). option_map_or (λ (n : Net). pass_check n rows) o true) made
                ∙ passed-AreCertified net rows certified,
          )

      by_client : (client : Option Client) → client_to_update apps session ask ≡ client → RowsFor ask
      by_client None is = ([], ap (λ (o : Option Client). option_map_or (are_rows_for []) o true) is)
      by_client (Some client) is = by_graph client (graph_for client) is refl

pub requests_have_rows : HistoriesAreValid → TrackGraphsAreGraphs → GraphsHaveTables → RequestsHaveRows
requests_have_rows are_valid graphs tables history request =
    let valid = IsValid-content are_valid history in
    let rows = rows-for graphs tables (content_of history) valid request.session in (
      (λ (ask : AppAsk). (rows ask).0),
      all-pass (are_rows_of (content_of history) request.session (λ (ask : AppAsk). (rows ask).0))
          (λ ask. (rows ask).1) request.apps,
    )

-- rows by which a plan is chosen
pub record HasRows (history : History) (request : Request) (plan : List (Option Choice)) : Type 0 where
  pub tables : Tables
  pub certified : are_certified (content_of history) request tables ≡ true
  pub chosen : choices_of (content_of history) request tables ≡ plan

-- what each plan has
abbrev pub PlansHaveRows : Type 0
PlansHaveRows =
    (history : History) (request : Request) (plan : List (Option Choice)) →
    IsPlan (content_of history) request plan → HasRows history request plan

pub plans_have_rows :
    HistoriesAreValid → CertifiedRowsQuote → TrackGraphsAreGraphs → PlansAreOne → RequestsHaveRows → PlansHaveRows
plans_have_rows are_valid quotes graphs one rows history request plan planned =
    let apps = content_of history in
    let (tables, certified) = rows history request in
    record {
      tables = tables;
      certified = certified;
      chosen = one history request (choices_of apps request tables) plan
          (IsPlan-choices_of quotes graphs apps (IsValid-content are_valid history) request tables certified) planned;
    }
