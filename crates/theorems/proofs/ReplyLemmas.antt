-- The reply to the update check of a client: what its status says.
use Rattle.std.proofs.Common.{◌≡◌, ℕ, List, Option, None, Some, refl, sym, ap, ◌∙◌, subst}
use Rattle.std.specs.Option.{option_and_then, option_map, option_map_or, MatchOption}
use Rattle.catalogue.specs.VersionLaws.{BelowIsIrreflexive, BelowIsTransitive}
use Rattle.catalogue.specs.Validity.{IsValid, IsValidApp}
use Rattle.catalogue.specs.declared.content.App.{App}
use Rattle.catalogue.specs.declared.content.Diff.{Diff}
use Rattle.catalogue.specs.declared.content.Release.{Release}
use Rattle.catalogue.specs.declared.mirror.Mirror.{Mirror}
use Rattle.omaha_json.specs.declared.reply.AppReply.{AppReply}
use Rattle.omaha_json.specs.declared.reply.AppState.{AppState}
use Rattle.omaha_json.specs.declared.reply.AppState.TheVariants as state
use Rattle.omaha_json.specs.declared.reply.CheckReply.{CheckReply}
use Rattle.omaha_json.specs.declared.reply.KnownApp.{KnownApp}
use Rattle.omaha_json.specs.declared.request.AppAsk.{AppAsk}
use Rattle.omaha_json.specs.declared.request.Check.{Check}
use Rattle.payload_graph.specs.Chains.{bytes_of}
use Rattle.payload_graph.specs.declared.payload.Payload.{Payload}
use Rattle.payload_graph.specs.declared.payload.Payload.TheVariants.{Full, Differ}
use Rattle.replies.specs.Clients.{Client, key_of}
use Rattle.replies.specs.Plans.{IsChosen, IsClientChoice, is_open, payload_in}
use Rattle.replies.specs.Replies.{Decision, IsOutcome, app_reply, check_reply, codebase_at, diff_of, offer_of, release_by, state_of, update_reply, with_check}
use Rattle.replies.specs.declared.choices.Choice.{Choice}
use Rattle.theorems.specs.Asks.{IsAskOf, IsGranted, ask_after, check_in, known_in, next_ask, offer_by, offer_in, offered_bytes, place_at}
use Rattle.theorems.specs.Statuses.{CanGoOn, Says}
use Rattle.theorems.proofs.ItemLemmas.{AllByRecursion-slice_get, Passes-option_map_or}
use Rattle.theorems.proofs.PermittedLemmas.{IsPermitted-permits, away-permits, diff-there}
use Rattle.theorems.proofs.TrackLemmas.{HasClient-client_of}

-- the bytes of an offer are those of its payload
pub offered_bytes-offer_of :
    (app : App) (codebase : List ℕ) (release : Release) (payload : Payload) →
    release_by app payload ≡ Some release →
    offered_bytes (offer_of codebase release (diff_of app payload)) ≡ bytes_of app payload
offered_bytes-offer_of app codebase release (Full to) there =
    sym (ap (λ (o : Option Release). option_map_or (λ (r : Release). r.size) o 0) there)
offered_bytes-offer_of app codebase release (Differ index) there =
    let diff = diff-there app index release there in
    ap (λ (o : Option Diff). offered_bytes (offer_of codebase release o)) diff.is
    ∙ sym (ap (λ (o : Option Diff). option_map_or (λ (d : Diff). d.size) o 0) diff.is)

-- the outcome of granted bytes is one
pub IsOutcome-granted :
    (mirrors : List Mirror) (choice : Option Choice) (outcome : Option ℕ) →
    IsGranted mirrors choice outcome → IsOutcome mirrors choice outcome
IsOutcome-granted mirrors None None granted = tt
IsOutcome-granted mirrors None (Some mirror) granted = cc
IsOutcome-granted mirrors (Some choice) None granted = absurd granted
IsOutcome-granted mirrors (Some choice) (Some mirror) granted = (refl, granted)

-- what a client reads in a reply to its update check
pub record IsRead (ask : AppAsk) (client : Client) (reply : AppReply) (status : CheckReply) : Type 0 where
  pub checked : check_in reply ≡ Some status
  pub made : offer_in reply ≡ offer_by status
  pub next : next_ask ask reply ≡ option_map (ask_after ask (with_check client ask (Some status))) (offer_by status)

module _ (irreflexive : BelowIsIrreflexive) (transitive : BelowIsTransitive) (apps : List App) (valid : IsValid apps)
    (mirrors : List Mirror) (session : List ℕ) (client : Client) where
  -- the app of a client is valid
  pub IsValidApp-client : (ask : AppAsk) → IsAskOf apps session client ask → IsValidApp client.app
  IsValidApp-client ask asks =
      let has = HasClient-client_of apps session ask client asks.known in
      AllByRecursion-slice_get IsValidApp apps client.index client.app valid.apps_valid has.there

  -- what is chosen for a client
  pub IsClientChoice-chosen :
      (ask : AppAsk) (choice : Option Choice) → IsAskOf apps session client ask →
      IsChosen apps session ask choice → IsClientChoice client ask choice
  IsClientChoice-chosen ask choice asks chosen =
      let wants = asks.wants in
      let known = asks.known in
      rw (wants, known) at chosen

  pub IsChosen-client :
      (ask : AppAsk) (choice : Option Choice) → IsAskOf apps session client ask →
      IsClientChoice client ask choice → IsChosen apps session ask choice
  IsChosen-client ask choice asks chosen =
      let wants = asks.wants in
      let known = asks.known in
      rw (wants, known) chosen

  -- what a payload that is chosen says of its client
  pub CanGoOn-choice :
      (ask : AppAsk) (choice : Choice) → IsAskOf apps session client ask →
      IsClientChoice client ask (Some choice) → CanGoOn client ask
  CanGoOn-choice ask choice asks chosen =
      let app_valid = IsValidApp-client ask asks in
      let permitted = chosen.first.begins.permitted in
      let leads = (IsPermitted-permits client.app (key_of client) (place_at client ask) choice.payload permitted).leads in
      record {
        payload = choice.payload;
        sum = chosen.sum;
        release = leads.release;
        away = away-permits irreflexive transitive client.app app_valid.releases_ascend (key_of client) (place_at client ask)
            choice.payload permitted;
        first = chosen.first;
        there = leads.there;
      }

  -- the status of the reply says what it should
  pub Says-update_reply :
      (ask : AppAsk) (choice : Option Choice) (outcome : Option ℕ) → IsAskOf apps session client ask →
      IsClientChoice client ask choice → IsOutcome mirrors choice outcome →
      Says mirrors client ask outcome (update_reply mirrors client.app (payload_in choice, outcome))
  unfolding CanGoOn-choice
  Says-update_reply ask None outcome asks chosen decided = chosen
  Says-update_reply ask (Some choice) outcome asks chosen decided =
      let way = CanGoOn-choice ask choice asks chosen in
      subst (λ (o : Option Release). Says mirrors client ask outcome
      (check_reply mirrors o (diff_of client.app choice.payload) outcome)) (sym way.there) (by_outcome outcome decided)
    where
      by_outcome :
          (o : Option ℕ) → IsOutcome mirrors (Some choice) o →
          Says mirrors client ask o (check_reply mirrors (Some (CanGoOn-choice ask choice asks chosen).release)
          (diff_of client.app choice.payload) o)
      by_outcome None decided = (CanGoOn-choice ask choice asks chosen, refl)
      by_outcome (Some mirror) decided =
          let way = CanGoOn-choice ask choice asks chosen in
          record {
            way = way;
            mirror = mirror;
            within = decided.1;
            granted = refl;
            is = refl;
            bytes = offered_bytes-offer_of client.app (codebase_at mirrors mirror) way.release choice.payload way.there;
          }

  -- the state of a client's app
  state-known :
      (ask : AppAsk) (decision : Decision) → IsAskOf apps session client ask →
      (app_reply apps session mirrors (ask, decision)).state
      ≡ state.Known (with_check client ask (Some (update_reply mirrors client.app decision)))
  state-known ask decision asks =
      let asked = Passes-option_map_or is_open ask.check asks.wants in
      ap (λ (c : Option Client). state_of mirrors c ask decision) asks.known
      ∙ ap (λ (o : Option Check). state.Known (with_check client ask
      (option_map (λ (_ : Check). update_reply mirrors client.app decision) o))) asked.is

  -- what a client reads in the reply
  pub IsRead-app_reply :
      (ask : AppAsk) (decision : Decision) → IsAskOf apps session client ask →
      IsRead ask client (app_reply apps session mirrors (ask, decision)) (update_reply mirrors client.app decision)
  IsRead-app_reply ask decision asks =
      let known = state-known ask decision asks in
      record {
        checked = ap (λ (s : AppState). option_and_then (λ (k : KnownApp). k.check) (known_in s)) known;
        made = ap (λ (s : AppState). option_and_then offer_by (option_and_then (λ (k : KnownApp). k.check) (known_in s))) known;
        next = ap (λ (s : AppState). option_and_then
            (λ (k : KnownApp). option_map (ask_after ask k) (option_and_then offer_by k.check)) (known_in s)) known;
      }

  pub Says-app_reply :
      (ask : AppAsk) (choice : Option Choice) (outcome : Option ℕ) → IsAskOf apps session client ask →
      IsChosen apps session ask choice → IsOutcome mirrors choice outcome →
      MatchOption (check_in (app_reply apps session mirrors (ask, (payload_in choice, outcome)))) ⊥
      (Says mirrors client ask outcome)
  Says-app_reply ask choice outcome asks chosen decided =
      let read = IsRead-app_reply ask (payload_in choice, outcome) asks in
      let says = Says-update_reply ask choice outcome asks (IsClientChoice-chosen ask choice asks chosen) decided in
      subst (λ (o : Option CheckReply). MatchOption o ⊥ (Says mirrors client ask outcome)) (sym read.checked) says
