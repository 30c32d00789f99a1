-- What is chosen by certified rows is what is chosen by chains.
use Rattle.std.proofs.Common.{◌≡◌, ℕ, ◌+◌, inl, inr, Bool, true, eqb, ltb, List, [], ◌∷◌, length, map, Option, None, Some, refl, sym, ap, ◌∙◌, subst, arith}
use Rattle.std.specs.List.{AllZip, list_all, position, position_or_len, range_with_len, slice_get}
use Rattle.std.specs.Option.{is_none, option_and_then, option_map, option_map_or, MatchOption}
use Rattle.std.proofs.lemmas.Bool.{and_parts, eqb-true, ltb-true}
use Rattle.std.proofs.lemmas.List.FromFn.{get_or-range_with_len, length-range_with_len}
use Rattle.std.proofs.lemmas.List.Sums.{AllPass-from_list_all}
use Rattle.std.proofs.lemmas.Option.{cond_some}
use Rattle.catalogue.specs.Versions.{lenient_version_of}
use Rattle.omaha_json.specs.declared.request.AppAsk.{AppAsk}
use Rattle.omaha_json.specs.declared.request.Request.{Request}
use Rattle.payload_graph.specs.Chains.{IsChain, cohort_target, destination_of, target_index}
use Rattle.payload_graph.specs.Net.{Net, net_in, net_of}
use Rattle.payload_graph.specs.Places.{IsWithin, has_fingerprint, place_of}
use Rattle.payload_graph.specs.declared.payload.Payload.{Payload}
use Rattle.payload_graph.specs.declared.payload.TrackKey.{TrackKey}
use Rattle.payload_graph.specs.declared.place.Place.{Place}
use Rattle.payload_graph.specs.declared.place.Place.TheVariants.{At, Outside}
use Rattle.price_cert.specs.Rules.{AreCertified, broken_at}
use Rattle.price_cert.specs.declared.row.Row.{Row}
use Rattle.quotes.specs.ByRows.{CertifiedRowsQuote, quote_by_rows}
use Rattle.quotes.specs.Quotes.{IsQuote}
use Rattle.quotes.specs.declared.quote.Quote.{Quote}
use Rattle.quotes.specs.declared.quote.Quote.TheVariants.{Here, Next, NoChain}
use Rattle.catalogue.specs.Validity.{IsValid}
use Rattle.catalogue.specs.declared.content.App.{App}
use Rattle.catalogue.specs.declared.content.Cohort.{Cohort}
use Rattle.catalogue.specs.declared.content.Release.{Release}
use Rattle.replies.specs.Clients.{Client, key_of}
use Rattle.replies.specs.Plans.{IsChoice, IsChosen, IsClientChoice, IsPlan, client_to_update}
use Rattle.theorems.specs.Laws.{TrackGraphsAreGraphs}
use Rattle.theorems.specs.Choices.{Tables, are_certified, are_rows_for, are_rows_of, choice_for, choice_of, choices_of, graph_for, pass_check, quoted_choice}
use Rattle.theorems.proofs.ClientLemmas.{IsValidApp-client, Wants-client}
use Rattle.theorems.proofs.ListLemmas.{none-is}

-- without a target there is no chain
no-chain :
    (app : App) (key : TrackKey) (place : Place) (payloads : List Payload) →
    target_index app key ≡ None → ¬ (IsChain app key place payloads)
no-chain app key place [] none leads =
    let clash : None ≡ Some place = sym (ap (λ (o : Option ℕ). option_map (λ n. At n) o) none) ∙ leads in
    cc
no-chain app key place (payload ∷ payloads) none leads = no-chain app key (At (destination_of app payload)) payloads
    none leads.1

-- and without a target there is no graph, nor the other way round
no-target : (app : App) (key : TrackKey) → net_in app key ≡ None → target_index app key ≡ None
no-target app key none = in_cohort (slice_get app.cohorts key.cohort) none
  where
    sought : (cohort : Cohort) (target : Option ℕ) → option_map (net_of app key cohort) target ≡ None → target ≡ None
    sought cohort None none = refl
    sought cohort (Some target) none = cc

    in_cohort :
        (cohort : Option Cohort) →
        option_and_then (λ (c : Cohort). option_map (net_of app key c) (cohort_target app c key)) cohort ≡ None →
        option_and_then (λ (c : Cohort). cohort_target app c key) cohort ≡ None
    in_cohort None none = refl
    in_cohort (Some cohort) none = sought cohort (cohort_target app cohort key) none

-- rows that pass the check are certified
AreCertified-passed : (net : Net) (rows : List Row) → pass_check net rows ≡ true → AreCertified net rows
AreCertified-passed net rows passed =
    let count = length net.doors in
    let unbroken = λ (from : ℕ). is_none (broken_at net rows from) in
    let parts = and_parts (eqb (length rows) count) (list_all unbroken (range_with_len 0 count)) passed in
    record {
      sized = eqb-true (length rows) count parts.0;
      right = λ from within.
          let sized = length-range_with_len 0 count in
          let zeroth : 0 + from ≡ from = omega arith in
          let at = get_or-range_with_len 0 count from 0 within ∙ zeroth in
          let all = AllPass-from_list_all unbroken (range_with_len 0 count) parts.1 from 0 (omega arith) in
          none-is (broken_at net rows from) (subst (λ n. unbroken n ≡ true) at all);
    }

-- a client's place is one of its app's
IsWithin-place_of : (releases : List Release) (fp version : List ℕ) → IsWithin releases (place_of releases fp version)
IsWithin-place_of releases fp version = cases (position (has_fingerprint fp) releases) refl
  where
    cases :
        (found : Option ℕ) → position (has_fingerprint fp) releases ≡ found →
        IsWithin releases (option_map_or (λ release. At release) found (Outside (lenient_version_of version)))
    cases None is = tt
    cases (Some release) is =
        let at = position_or_len (has_fingerprint fp) releases in
        let parts = cond_some (ltb at (length releases)) at release is in
        let less = ltb-true at (length releases) parts.0 in
        let same : at ≡ release = parts.1 in
        omega arith

-- the payload of a quote is a choice
IsChoice-quoted :
    (app : App) (key : TrackKey) (place : Place) (quote : Quote) →
    IsQuote app key place quote → IsChoice app key place (quoted_choice app quote)
IsChoice-quoted app key place Here at = inl at
IsChoice-quoted app key place (Next payload sum) next = record { sum = sum; first = next.1; bytes = refl }
IsChoice-quoted app key place NoChain none = inr none

-- what holds of each item that passes a test and what it is mapped to
zip-mapped :
    {A B : Type 0} (R : A → B → Type 0) (test : A → Bool) (f : A → B) (items : List A) →
    ((item : A) → test item ≡ true → R item (f item)) → list_all test items ≡ true → AllZip R items (map f items)
zip-mapped R test f [] holds all = tt
zip-mapped R test f (item ∷ items) holds all =
    let parts = and_parts (test item) (list_all test items) all in
    (holds item parts.0, zip-mapped R test f items holds parts.1)

module _ (quotes : CertifiedRowsQuote) (graphs : TrackGraphsAreGraphs) (apps : List App) (valid : IsValid apps)
    (session : List ℕ) where
  IsClientChoice-rows :
      (ask : AppAsk) (rows : List Row) (client : Client) → client_to_update apps session ask ≡ Some client →
      are_rows_for rows client ≡ true → IsClientChoice client ask (choice_for ask rows client)
  IsClientChoice-rows ask rows client is passed = by_graph (graph_for client) refl passed
    where
      by_graph :
          (net : Option Net) → graph_for client ≡ net → option_map_or (λ (n : Net). pass_check n rows) net true ≡ true →
          IsClientChoice client ask
          (option_and_then
          (λ (n : Net). quoted_choice client.app
          (quote_by_rows client.app (key_of client) rows (place_of client.app.releases ask.fp ask.version)))
          net)
      by_graph None none passed =
          inr (λ payloads. no-chain client.app (key_of client) (place_of client.app.releases ask.fp ask.version)
          payloads
          (no-target client.app (key_of client) none))
      by_graph (Some net) there passed =
          let key = key_of client in
          let place = place_of client.app.releases ask.fp ask.version in
          let own = IsValidApp-client apps session ask client (Wants-client apps session ask client is) valid in
          IsChoice-quoted client.app key place (quote_by_rows client.app key rows place)
          (quotes client.app key net rows place own there (graphs client.app key net own there)
          (AreCertified-passed net rows passed)
          (IsWithin-place_of client.app.releases ask.fp ask.version))

  IsChosen-rows : (tables : Tables) (ask : AppAsk) → are_rows_of apps session tables ask ≡ true →
      IsChosen apps session ask (choice_of apps session tables ask)
  IsChosen-rows tables ask passed = by_client (client_to_update apps session ask) refl passed
    where
      by_client :
          (client : Option Client) → client_to_update apps session ask ≡ client →
          option_map_or (are_rows_for (tables ask)) client true ≡ true →
          MatchOption client (option_and_then (choice_for ask (tables ask)) client ≡ None)
          (λ (c : Client). IsClientChoice c ask (option_and_then (choice_for ask (tables ask)) client))
      by_client None is passed = refl
      by_client (Some client) is passed = IsClientChoice-rows ask (tables ask) client is passed

-- the choices by certified rows are a plan
pub IsPlan-choices_of :
    CertifiedRowsQuote → TrackGraphsAreGraphs → (apps : List App) → IsValid apps → (request : Request)
    (tables : Tables) →
    are_certified apps request tables ≡ true → IsPlan apps request (choices_of apps request tables)
IsPlan-choices_of quotes graphs apps valid request tables passed =
    zip-mapped (IsChosen apps request.session) (are_rows_of apps request.session tables)
    (choice_of apps request.session tables)
    request.apps (IsChosen-rows quotes graphs apps valid request.session tables) passed
