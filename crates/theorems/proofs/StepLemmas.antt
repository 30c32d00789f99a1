-- What follows a reply to a client: it stays where it is, or it goes to the release of the offer.
use Rattle.std.proofs.Common.{◌≡◌, ℕ, ◌<◌, ◌≤◌, ◌⊎◌, inl, inr, List, length, Option, None, Some, refl, sym, ap, ◌∙◌, subst, arith}
use Rattle.std.specs.Option.{MatchOption}
use Rattle.catalogue.specs.VersionLaws.{BelowIsIrreflexive, BelowIsTransitive}
use Rattle.catalogue.specs.Validity.{IsValid}
use Rattle.catalogue.specs.declared.content.App.{App}
use Rattle.catalogue.specs.declared.mirror.Mirror.{Mirror}
use Rattle.cohorts.specs.Laws.{ParsedIsPrinted, PrintedIsParsed}
use Rattle.omaha_json.specs.declared.reply.AppReply.{AppReply}
use Rattle.omaha_json.specs.declared.reply.CheckReply.{CheckReply}
use Rattle.omaha_json.specs.declared.reply.CheckReply.TheVariants as check
use Rattle.omaha_json.specs.declared.reply.Offer.{Offer}
use Rattle.omaha_json.specs.declared.request.AppAsk.{AppAsk}
use Rattle.payload_graph.specs.Chains.{IsAtTarget, destination_of}
use Rattle.payload_graph.specs.Places.{place_of}
use Rattle.quotes.specs.Sums.{HasNoChain}
use Rattle.replies.specs.Clients.{Client, key_of}
use Rattle.replies.specs.Plans.{IsClientChoice, payload_in}
use Rattle.replies.specs.Replies.{app_reply, update_reply, with_check}
use Rattle.replies.specs.declared.choices.Choice.{Choice}
use Rattle.theorems.specs.Asks.{IsAskOf, IsGranted, IsReplyTo, ask_after, check_in, next_ask, offer_in, place_at}
use Rattle.theorems.specs.Laws.{IsStep, offered}
use Rattle.theorems.specs.Statuses.{IsOffered, Says}
use Rattle.theorems.proofs.ChoiceLemmas.{HasChoice-any}
use Rattle.theorems.proofs.PlaceLemmas.{place_of-fingerprint}
use Rattle.theorems.proofs.ReplyLemmas.{IsChosen-client, IsClientChoice-chosen, IsOutcome-granted, IsRead, IsRead-app_reply, IsValidApp-client, Says-update_reply}
use Rattle.theorems.proofs.TrackLemmas.{client_of-again}

-- a reply after which a client stays where it is
pub record Stays (client : Client) (ask : AppAsk) (reply : AppReply) : Type 0 where
  pub next_is : next_ask ask reply ≡ None
  pub made : offer_in reply ≡ None
  pub checked : check_in reply ≡ Some check.NoUpdate
  pub why :
      IsAtTarget client.app (key_of client) (place_at client ask)
      ⊎ HasNoChain client.app (key_of client) (place_at client ask)

-- a reply after which it goes on
pub record Moves (apps : List App) (session : List ℕ) (client : Client) (ask : AppAsk) (reply : AppReply) : Type 0 where
  pub next : AppAsk
  pub next_is : next_ask ask reply ≡ Some next
  pub step : IsStep apps session client ask reply next
  pub checked : check_in reply ≡ offered step.offer

-- a reply to an ask
pub record HasReply (apps : List App) (mirrors : List Mirror) (session : List ℕ) (ask : AppAsk) : Type 0 where
  pub reply : AppReply
  pub is : IsReplyTo apps mirrors session ask reply

module _ (irreflexive : BelowIsIrreflexive) (transitive : BelowIsTransitive) (printed_is : PrintedIsParsed)
    (parsed_is : ParsedIsPrinted) (apps : List App) (valid : IsValid apps) (mirrors : List Mirror) (session : List ℕ)
    (client : Client) where
  -- an offer that is granted is a step
  Moves-offered :
      (ask : AppAsk) (reply : AppReply) (outcome : Option ℕ) (offer : Offer) → IsAskOf apps session client ask →
      IsRead ask client reply (check.Offered offer) → IsOffered mirrors client ask outcome offer →
      Moves apps session client ask reply
  Moves-offered ask reply outcome offer asks read is =
      let app_valid = IsValidApp-client irreflexive transitive apps valid mirrors session client ask asks in
      let fp = ap (λ (o : Offer). o.fp) is.is in
      record {
        next = ask_after ask (with_check client ask (Some (check.Offered offer))) offer;
        next_is = read.next;
        step = record {
          asks = record {
            known = client_of-again printed_is parsed_is apps session ask client offer.version offer.fp app_valid asks.known;
            wants = asks.wants;
          };
          offer = offer;
          made = read.made;
          way = is.way;
          bytes = is.bytes;
          moved = ap (λ (text : List ℕ). place_of client.app.releases text offer.version) fp
              ∙ place_of-fingerprint client.app (destination_of client.app is.way.payload) is.way.release offer.version app_valid
              is.way.there;
        };
        checked = read.checked;
      }

  cases_of :
      (ask : AppAsk) (reply : AppReply) (choice : Option Choice) (outcome : Option ℕ) (status : CheckReply) →
      IsAskOf apps session client ask → IsGranted mirrors choice outcome → IsClientChoice client ask choice →
      IsRead ask client reply status → Says mirrors client ask outcome status →
      (outcome ≡ None → choice ≡ None) → (choice ≡ None → status ≡ check.NoUpdate) →
      Stays client ask reply ⊎ Moves apps session client ask reply
  cases_of ask reply choice outcome check.NoUpdate asks granted chosen read says ungranted unchosen =
      inl (record { next_is = read.next; made = read.made; checked = read.checked; why = says })
  cases_of ask reply choice outcome check.Internal asks granted chosen read says ungranted unchosen =
      let clash = unchosen (ungranted says.1) in
      cc
  cases_of ask reply choice outcome (check.Offered offer) asks granted chosen read says ungranted unchosen =
      inr (Moves-offered ask reply outcome offer asks read says)
  cases_of ask reply choice outcome check.Other asks granted chosen read says ungranted unchosen = absurd says

  unchosen-granted : (choice : Option Choice) (outcome : Option ℕ) → IsGranted mirrors choice outcome → outcome ≡ None →
      choice ≡ None
  unchosen-granted None outcome granted none = refl
  unchosen-granted (Some choice) outcome granted none =
      absurd (subst (λ (o : Option ℕ). MatchOption o ⊥ (λ (mirror : ℕ). mirror < length mirrors)) none granted)

  no_update : (choice : Option Choice) (outcome : Option ℕ) → choice ≡ None →
      update_reply mirrors client.app (payload_in choice, outcome) ≡ check.NoUpdate
  no_update choice outcome none = ap (λ (c : Option Choice). update_reply mirrors client.app (payload_in c, outcome)) none

  -- after a reply a client stays, or goes on
  pub Stays-or-Moves :
      (ask : AppAsk) (reply : AppReply) → IsAskOf apps session client ask → IsReplyTo apps mirrors session ask reply →
      Stays client ask reply ⊎ Moves apps session client ask reply
  Stays-or-Moves ask reply asks replied =
      let chosen = IsClientChoice-chosen irreflexive transitive apps valid mirrors session client ask replied.choice asks
      replied.chosen in
      let decided = IsOutcome-granted mirrors replied.choice replied.outcome replied.granted in
      let status : CheckReply = update_reply mirrors client.app (payload_in replied.choice, replied.outcome) in
      let own = IsRead-app_reply irreflexive transitive apps valid mirrors session client ask
      (payload_in replied.choice, replied.outcome) asks in
      let read = subst (λ (r : AppReply). IsRead ask client r status) (sym replied.is) own in
      let says = Says-update_reply irreflexive transitive apps valid mirrors session client ask replied.choice replied.outcome
      asks chosen decided in
      cases_of ask reply replied.choice replied.outcome status asks replied.granted chosen read says
      (unchosen-granted replied.choice replied.outcome replied.granted) (no_update replied.choice replied.outcome)

  -- a mirror can grant each choice
  granted_by :
      1 ≤ length mirrors → (choice : Option Choice) → (outcome : Option ℕ) × IsGranted mirrors choice outcome
  granted_by some None = (None, refl)
  granted_by some (Some choice) = (Some 0, omega arith)

  -- so each ask has a reply
  pub HasReply-any : 1 ≤ length mirrors → (ask : AppAsk) → IsAskOf apps session client ask → HasReply apps mirrors session ask
  HasReply-any some ask asks =
      let app_valid = IsValidApp-client irreflexive transitive apps valid mirrors session client ask asks in
      let has = HasChoice-any irreflexive transitive client.app app_valid.releases_ascend (key_of client) (place_at client ask) in
      let granted = granted_by some has.choice in
      record {
        reply = app_reply apps session mirrors (ask, (payload_in has.choice, granted.0));
        is = record {
          choice = has.choice;
          outcome = granted.0;
          chosen = IsChosen-client irreflexive transitive apps valid mirrors session client ask has.choice asks has.is;
          granted = granted.1;
          is = refl;
        };
      }
