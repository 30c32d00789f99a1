-- What replies of one catalogue say, and where their offers lead.
use Rattle.std.proofs.Common.{◌≡◌, ℕ, ◌<◌, ◌≤◌, List, [], ◌∷◌, length, map, take, Option, None, Some, refl, sym, ap, subst, arith}
use Rattle.std.specs.List.{All, AllZip, zip}
use Rattle.std.specs.Option.{IfSome, MatchOption, option_and_then, option_map}
use Rattle.std.proofs.lemmas.List.Elements.{All-weaker}
use Rattle.std.proofs.lemmas.Option.{IfSome_then, none-some}
use Rattle.catalogue.specs.Histories.{History}
use Rattle.editions.specs.Editions.{content_of}
use Rattle.omaha_json.specs.declared.reply.AppReply.{AppReply}
use Rattle.omaha_json.specs.declared.reply.CheckReply.{CheckReply}
use Rattle.omaha_json.specs.declared.reply.CheckReply.TheVariants as check
use Rattle.omaha_json.specs.declared.reply.KnownApp.{KnownApp}
use Rattle.omaha_json.specs.declared.reply.Offer.{Offer}
use Rattle.omaha_json.specs.declared.reply.Reply.{Reply}
use Rattle.omaha_json.specs.declared.request.AppAsk.{AppAsk}
use Rattle.catalogue.specs.declared.mirror.Mirror.{Mirror}
use Rattle.replies.specs.Clients.{Client}
use Rattle.replies.specs.Plans.{IsChosen, payload_in}
use Rattle.replies.specs.Replies.{IsOutcome, app_reply}
use Rattle.replies.specs.declared.choices.Choice.{Choice}
use Rattle.theorems.specs.Asks.{IsAskOf, IsGranted, IsReplyTo, ask_after, check_in, known_in, next_ask, offer_by, offer_in}
use Rattle.theorems.specs.Laws.{OffersAreSteps, StatusesSay, WalksAreLeast, WalksExist}
use Rattle.theorems.specs.Statuses.{Says}
use Rattle.theorems.specs.Walks.{IsWalk}
use Rattle.theorems.specs.Events.{happens, service_after}
use Rattle.theorems.specs.Headline.{AllReplies, OfferLeads, OffersLead, OffersLeadToTargets, RepliesSayTrue, SayTrue, SaysTrue}
use Rattle.theorems.specs.Jobs.{EndedJob, Job, Rendered, Worker, outcomes_of}
use Rattle.theorems.specs.InterleavingLaws.{EndsWell, IsOfOneCatalogue, RepliesAreOfOneCatalogue}
use Rattle.theorems.specs.Services.{Service, content_at}

-- what holds of each reply that is of one catalogue
AllReplies-well :
    (mirrors : List Mirror) (service : Service) (Holds : Job → Rendered → Type 0) →
    ((job : Job) (rendered : Rendered) → IsOfOneCatalogue mirrors service.history job rendered → Holds job rendered) →
    All (λ (worker : Worker). All (EndsWell mirrors service.history) worker.ended) service.workers → AllReplies Holds
    service
AllReplies-well mirrors service Holds holds well =
    All-weaker (λ (worker : Worker). All (EndsWell mirrors service.history) worker.ended)
    (λ (worker : Worker). All (λ (ended : EndedJob). IfSome ended.rendered (Holds ended.job)) worker.ended)
    (λ worker all.
    All-weaker (EndsWell mirrors service.history) (λ (ended : EndedJob). IfSome ended.rendered (Holds ended.job))
    (λ ended one. IfSome_then ended.rendered one (holds ended.job)) worker.ended all)
    service.workers well

-- what holds of each app's reply by its choice and its outcome
module _ (history : History) (mirrors : List Mirror) (session : List ℕ) where
  abbrev reply_to : AppAsk → Option Choice → Option ℕ → AppReply
  reply_to ask choice outcome = app_reply (content_of history) session mirrors (ask, (payload_in choice, outcome))

  abbrev replies_to : List AppAsk → List (Option Choice) → List (Option ℕ) → List AppReply
  replies_to asks plan outcomes = map (app_reply (content_of history) session mirrors)
      (zip asks (zip (map payload_in plan) outcomes))

  module _ (statuses : StatusesSay) where
    each-says :
        (asks : List AppAsk) (plan : List (Option Choice)) (outcomes : List (Option ℕ)) →
        AllZip (IsChosen (content_of history) session) asks plan → AllZip (IsOutcome mirrors) plan outcomes →
        AllZip (SaysTrue (content_of history) mirrors session) (zip asks outcomes) (replies_to asks plan outcomes)
    each-says [] [] [] planned decided = tt
    each-says [] [] (outcome ∷ outcomes) planned decided = absurd decided
    each-says [] (choice ∷ plan) outcomes planned decided = absurd planned
    each-says (ask ∷ asks) [] outcomes planned decided = absurd planned
    each-says (ask ∷ asks) (choice ∷ plan) [] planned decided = absurd decided
    each-says (ask ∷ asks) (choice ∷ plan) (outcome ∷ outcomes) planned decided = (
      λ client asks. statuses history mirrors session client ask choice outcome asks planned.0 decided.0,
      each-says asks plan outcomes planned.1 decided.1,
    )

    -- an offer is made of a choice that a mirror granted
    IsGranted-offer :
        (client : Client) (ask : AppAsk) (choice : Option Choice) (outcome : Option ℕ) (offer : Offer) →
        IsAskOf (content_of history) session client ask → IsChosen (content_of history) session ask choice →
        IsOutcome mirrors choice outcome → offer_in (reply_to ask choice outcome) ≡ Some offer →
        IsGranted mirrors choice outcome × (1 ≤ length mirrors)
    IsGranted-offer client ask choice outcome offer asks chosen decided made =
        by_check (check_in (reply_to ask choice outcome))
        (statuses history mirrors session client ask choice outcome asks chosen decided) made
      where
        granted : (choice : Option Choice) (outcome : Option ℕ) (mirror : ℕ) → IsOutcome mirrors choice outcome →
            outcome ≡ Some mirror →
            mirror < length mirrors → IsGranted mirrors choice outcome × (1 ≤ length mirrors)
        granted choice None mirror decided is within = absurd (none-some mirror is)
        granted None (Some other) mirror decided is within = absurd (let clash = decided.0 in cc)
        granted (Some choice) (Some other) mirror decided is within = (decided.1, omega arith)

        by_check :
            (said : Option CheckReply) → MatchOption said ⊥ (Says mirrors client ask outcome) → option_and_then
            offer_by said ≡ Some offer →
            IsGranted mirrors choice outcome × (1 ≤ length mirrors)
        by_check None says made = absurd says
        by_check (Some check.NoUpdate) says made = absurd (none-some offer made)
        by_check (Some check.Internal) says made = absurd (none-some offer made)
        by_check (Some (check.Offered own)) says made = granted choice outcome says.mirror decided says.granted
            says.within
        by_check (Some check.Other) says made = absurd (none-some offer made)

  -- a reply that makes an offer has a next ask
  next-offer : (ask : AppAsk) (reply : AppReply) (offer : Offer) → offer_in reply ≡ Some offer →
      (next : AppAsk) × (next_ask ask reply ≡ Some next)
  next-offer ask reply offer made = by_known (known_in reply.state) made
    where
      by_offer : (known : KnownApp) (o : Option Offer) → o ≡ Some offer →
          (next : AppAsk) × (option_map (ask_after ask known) o ≡ Some next)
      by_offer known None made = absurd (none-some offer made)
      by_offer known (Some own) made = (ask_after ask known own, refl)

      by_known :
          (known : Option KnownApp) → option_and_then offer_by
          (option_and_then (λ (k : KnownApp). k.check) known) ≡ Some offer →
          (next : AppAsk) × (option_and_then
          (λ (k : KnownApp). option_map (ask_after ask k) (option_and_then offer_by k.check)) known ≡ Some next)
      by_known None made = absurd (none-some offer made)
      by_known (Some known) made = by_offer known (option_and_then offer_by known.check) made

  module _ (statuses : StatusesSay) (steps : OffersAreSteps) (exists : WalksExist) (least : WalksAreLeast) where
    OfferLeads-reply :
        (ask : AppAsk) (choice : Option Choice) (outcome : Option ℕ) →
        IsChosen (content_of history) session ask choice → IsOutcome mirrors choice outcome →
        OfferLeads (content_of history) mirrors session ask (reply_to ask choice outcome)
    OfferLeads-reply ask choice outcome chosen decided client offer asks made =
        let apps = content_of history in
        let reply = reply_to ask choice outcome in
        let granted = IsGranted-offer statuses client ask choice outcome offer asks chosen decided made in
        let replied : IsReplyTo apps mirrors session ask reply =
        record { choice = choice; outcome = outcome; chosen = chosen; granted = granted.0; is = refl } in
        let next = next-offer ask reply offer made in
        let step = steps history mirrors session client ask next.0 reply asks replied next.1 in
        let on = exists history mirrors session client next.0 granted.1 step.asks in
        let chain = step.way.first.least in
        record {
          rest = on.0;
          walk = (
            replied,
            subst (λ (o : Option AppAsk). MatchOption o (on.0 ≡ [])
                (λ (n : AppAsk). IsWalk apps mirrors session n on.0)) (sym next.1) on.1,
          );
          least = λ others walk. least history mirrors session client ask (reply ∷ others) chain.chain asks walk
              chain.leads;
        }

    each-leads :
        (asks : List AppAsk) (plan : List (Option Choice)) (outcomes : List (Option ℕ)) →
        AllZip (IsChosen (content_of history) session) asks plan → AllZip (IsOutcome mirrors) plan outcomes →
        AllZip (OfferLeads (content_of history) mirrors session) asks (replies_to asks plan outcomes)
    each-leads [] [] [] planned decided = tt
    each-leads [] [] (outcome ∷ outcomes) planned decided = absurd decided
    each-leads [] (choice ∷ plan) outcomes planned decided = absurd planned
    each-leads (ask ∷ asks) [] outcomes planned decided = absurd planned
    each-leads (ask ∷ asks) (choice ∷ plan) [] planned decided = absurd decided
    each-leads (ask ∷ asks) (choice ∷ plan) (outcome ∷ outcomes) planned decided = (
      OfferLeads-reply ask choice outcome planned.0 decided.0,
      each-leads asks plan outcomes planned.1 decided.1,
    )

-- the replies to the apps, as the plan and the outcomes give them
same-apps :
    (mirrors : List Mirror) (history : History) (job : Job) (rendered : Rendered)
    (one : IsOfOneCatalogue mirrors history job rendered) →
    rendered.reply.apps
    ≡ replies_to (take job.number history) mirrors one.pending.request.session one.pending.request.apps
    one.pending.choices (outcomes_of one.pending)
same-apps mirrors history job rendered one = ap (λ (r : Reply). r.apps) one.reply_is.is

pub replies_say_true : RepliesAreOfOneCatalogue happens → StatusesSay → RepliesSayTrue happens
replies_say_true of_one statuses mirrors start workers events accepted =
    let service = service_after happens mirrors start workers events in
    AllReplies-well mirrors service (SayTrue mirrors service.history)
    (λ job rendered one.
    let pending = one.pending in
    record {
      pending = pending;
      planned = one.planned;
      each =
          subst
          (AllZip (SaysTrue (content_at service.history job.number) mirrors pending.request.session)
          (zip pending.request.apps (outcomes_of pending)))
          (sym (same-apps mirrors service.history job rendered one))
          (each-says (take job.number service.history) mirrors pending.request.session statuses pending.request.apps
          pending.choices
          (outcomes_of pending) one.reply_is.planned one.reply_is.decided);
    })
    (of_one mirrors start workers events accepted)

pub offers_lead_to_targets :
    RepliesAreOfOneCatalogue happens → StatusesSay → OffersAreSteps → WalksExist → WalksAreLeast → OffersLeadToTargets
    happens
offers_lead_to_targets of_one statuses steps exists least mirrors start workers events accepted =
    let service = service_after happens mirrors start workers events in
    AllReplies-well mirrors service (OffersLead mirrors service.history)
    (λ job rendered one.
    let pending = one.pending in
    record {
      pending = pending;
      planned = one.planned;
      each =
          subst (AllZip (OfferLeads (content_at service.history job.number) mirrors pending.request.session)
          pending.request.apps)
          (sym (same-apps mirrors service.history job rendered one))
          (each-leads (take job.number service.history) mirrors pending.request.session statuses steps exists least
          pending.request.apps
          pending.choices (outcomes_of pending) one.reply_is.planned one.reply_is.decided);
    })
    (of_one mirrors start workers events accepted)
