-- What may be chosen for an app of a request.
use Rattle.std.proofs.Common.{◌≡◌, ℕ, ◌<◌, inr, Bool, true, false, cond, List, [], ◌∷◌, get_or, length, Option, None, Some, refl, sym, ap, ◌∙◌, subst, arith}
use Rattle.std.specs.List.{AllZip, slice_get}
use Rattle.std.specs.Option.{option_and_then, option_map, option_map_or, IfSome, MatchOption}
use Rattle.catalogue.specs.Lookups.{releases_at}
use Rattle.catalogue.specs.declared.content.App.{App}
use Rattle.catalogue.specs.declared.content.Cohort.{Cohort}
use Rattle.catalogue.specs.declared.content.Release.{Release}
use Rattle.omaha_json.specs.declared.request.AppAsk.{AppAsk}
use Rattle.payload_graph.specs.Chains.{IsChain, bytes_of, destination_of, cohort_target, target_index}
use Rattle.payload_graph.specs.Places.{place_of}
use Rattle.payload_graph.specs.declared.payload.Payload.{Payload}
use Rattle.payload_graph.specs.declared.payload.TrackKey.{TrackKey}
use Rattle.payload_graph.specs.declared.place.Place.{Place}
use Rattle.payload_graph.specs.declared.place.Place.TheVariants.{At}
use Rattle.payload_graph.specs.Net.{net_among, net_in, net_of}
use Rattle.quotes.specs.Quotes.{IsQuote, IsQuoteAmong}
use Rattle.quotes.specs.declared.quote.Quote.TheVariants.{Next}
use Rattle.replies.proofs.ZipLemmas.{AllZip-at}
use Rattle.replies.specs.Clients.{Client, IsAssigned, IsInCohort, client_in, client_of, track_by}
use Rattle.replies.specs.Plans.{IsAssignedChoice, IsChoice, IsChoiceAmong, IsChosen, IsClientChoice, IsTrackChoice, wants_update}
use Rattle.replies.specs.declared.choices.Choice.{Choice}
use Rattle.replies.specs.declared.client.Assignment.{Assignment}

-- the releases at an app's index are the app's
releases_at-there : (apps : List App) (index : ℕ) (app : App)
    → slice_get apps index ≡ Some app → releases_at apps index ≡ app.releases
releases_at-there apps index app there = rw there refl

-- a chain ends at a target
no_chain :
    (app : App) (key : TrackKey) (place : Place) (payloads : List Payload) →
    target_index app key ≡ None → ¬ (IsChain app key place payloads)
no_chain app key place [] none chain =
    let clash : None ≡ Some place = sym (ap (λ (o : Option ℕ). option_map (λ n. At n) o) none) ∙ chain in
    cc
no_chain app key place (payload ∷ payloads) none chain =
    no_chain app key (At (destination_of app payload)) payloads none chain.1

-- a track without a graph has no target
no_target : (app : App) (key : TrackKey) → net_in app key ≡ None → target_index app key ≡ None
no_target app key none = at (slice_get app.cohorts key.cohort) none
  where
    to : (cohort : Cohort) (target : Option ℕ) → option_map (net_of app key cohort) target ≡ None → target ≡ None
    to cohort None is = refl
    to cohort (Some target) is = cc

    at :
        (cohort : Option Cohort) →
        option_and_then (λ cohort. option_map (net_of app key cohort) (cohort_target app cohort key)) cohort ≡ None →
        option_and_then (λ cohort. cohort_target app cohort key) cohort ≡ None
    at None is = refl
    at (Some cohort) is = to cohort (cohort_target app cohort key) is

-- so no chain leads anywhere
pub IsChoice-no_graph :
    (apps : List App) (key : TrackKey) (place : Place) (app : App) →
    slice_get apps key.app ≡ Some app → net_among apps key ≡ None → IsChoice app key place None
IsChoice-no_graph apps key place app there none =
    let own : net_in app key ≡ None =
    sym (ap (λ (o : Option App). option_and_then (λ app. net_in app key) o) there) ∙ none in
    inr (λ payloads. no_chain app key place payloads (no_target app key own))

-- the first payload of a quote, with its bytes
pub IsChoice-next :
    (apps : List App) (key : TrackKey) (place : Place) (payload : Payload) (sum bytes : ℕ) (app : App) →
    slice_get apps key.app ≡ Some app → IsQuoteAmong apps key place (Next payload sum) → bytes ≡ bytes_of app payload →
    IsChoiceAmong apps key place (Some (record { payload = payload; bytes = bytes }))
IsChoice-next apps key place payload sum bytes app there quoted own =
    let quote = subst (λ (o : Option App). IfSome o (λ app. IsQuote app key place (Next payload sum))) there quoted in
    subst (λ (o : Option App). IfSome o (λ app. IsChoice app key place (Some (record { payload = payload; bytes = bytes })))) (sym there)
    (record { sum = sum; first = quote.1; bytes = own })

-- what is chosen for a client of a track, at the place that it sent
pub IsTrackChoice-among :
    (apps : List App) (key : TrackKey) (ask : AppAsk) (place : Place) (choice : Option Choice) →
    key.app < length apps → place ≡ place_of (releases_at apps key.app) ask.fp ask.version →
    IsChoiceAmong apps key place choice → IsTrackChoice apps key ask choice
IsTrackChoice-among apps key ask place choice within placed chosen = in_apps (slice_get apps key.app) refl chosen
  where
    in_apps :
        (found : Option App) → slice_get apps key.app ≡ found → IfSome found (λ app. IsChoice app key place choice) →
        IfSome found (λ app. IsChoice app key (place_of app.releases ask.fp ask.version) choice)
    in_apps None there none = none
    in_apps (Some app) there some =
        let at : place ≡ place_of app.releases ask.fp ask.version =
        placed ∙ ap (λ (releases : List Release). place_of releases ask.fp ask.version) (releases_at-there apps key.app app there) in
        subst (λ (p : Place). IsChoice app key p choice) at some

-- without a target nothing
pub IsTrackChoice-no_graph :
    (apps : List App) (key : TrackKey) (ask : AppAsk) → None ≡ net_among apps key → IsTrackChoice apps key ask None
IsTrackChoice-no_graph apps key ask none = in_apps (slice_get apps key.app) refl
  where
    in_apps :
        (found : Option App) → slice_get apps key.app ≡ found →
        IfSome found (λ app. IsChoice app key (place_of app.releases ask.fp ask.version) None)
    in_apps None there = tt
    in_apps (Some app) there =
        IsChoice-no_graph apps key (place_of app.releases ask.fp ask.version) app there (sym none)

-- what is chosen by an assignment is what is chosen for the app of the request
pub IsChosen-assigned :
    (apps : List App) (session : List ℕ) (ask : AppAsk) (assigned : Option Assignment) (choice : Option Choice) →
    IsAssigned apps session ask assigned → IsAssignedChoice apps ask assigned choice → IsChosen apps session ask choice
IsChosen-assigned apps session ask assigned choice is chosen = by_wish (wants_update ask) chosen
  where
    Chosen : Option Client → Type 0
    Chosen client = MatchOption client (choice ≡ None) (λ c. IsClientChoice c ask choice)

    in_app :
        (a : Assignment) (app : Option App) → slice_get apps a.key.app ≡ app → IsInCohort apps (Some a) →
        IfSome app (λ there. IsChoice there a.key (place_of there.releases ask.fp ask.version) choice) →
        Chosen (option_map (λ (there : App). record { index = a.key.app; app = there; track = track_by there a }) app)
    in_app a None there within none =
        let few : a.key.cohort < 0 =
        subst (λ (cohorts : List Cohort). a.key.cohort < length cohorts)
        (ap (λ (o : Option App). option_map_or (λ (app : App). app.cohorts) o []) there) within in
        absurd (omega arith)
    in_app a (Some app) there within some = some

    by_assignment :
        (a : Option Assignment) → IsInCohort apps a →
        MatchOption a (choice ≡ None) (λ assignment. IsTrackChoice apps assignment.key ask choice) →
        Chosen (option_and_then (client_in apps) a)
    by_assignment None within none = none
    by_assignment (Some a) within some = in_app a (slice_get apps a.key.app) refl within some

    by_wish :
        (wants : Bool) →
        MatchOption (cond wants assigned None) (choice ≡ None) (λ assignment. IsTrackChoice apps assignment.key ask choice) →
        Chosen (cond wants (client_of apps session ask) None)
    by_wish false none = none
    by_wish true some = subst Chosen is.client (by_assignment assigned is.cohort some)

-- of clients that are assigned side by side each is
pub IsAssigned-at :
    (apps : List App) (session : List ℕ) (asks : List AppAsk) (clients : List (Option Assignment)) (index : ℕ)
    (ask : AppAsk) (client : Option Assignment) →
    AllZip (IsAssigned apps session) asks clients → index < length asks → ask ≡ get_or asks index ask →
    client ≡ get_or clients index client → IsAssigned apps session ask client
IsAssigned-at apps session asks clients index ask client along within item own =
    subst (IsAssigned apps session ask) (sym own)
    (subst (λ (a : AppAsk). IsAssigned apps session a (get_or clients index client)) (sym item)
    (AllZip-at (IsAssigned apps session) asks clients index ask client along within))
