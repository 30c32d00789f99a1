-- What the replies of every interleaving say to their clients, and what follows for a client that takes an offer.
use Rattle.std.specs.Prelude.{◌≡◌, ℕ, All, List, ◌∷◌, IfSome, MatchOption, Option, Some}
use Rattle.std.specs.List.{AllZip, zip}
use Rattle.catalogue.specs.Histories.{History}
use Rattle.omaha_json.specs.declared.reply.AppReply.{AppReply}
use Rattle.omaha_json.specs.declared.reply.Offer.{Offer}
use Rattle.omaha_json.specs.declared.request.AppAsk.{AppAsk}
use Rattle.payload_graph.specs.Chains.{IsAtTarget}
use Rattle.quotes.specs.Sums.{IsLeast}
use Rattle.catalogue.specs.declared.content.App.{App}
use Rattle.catalogue.specs.declared.mirror.Mirror.{Mirror}
use Rattle.replies.specs.Clients.{Client, key_of}
use Rattle.theorems.specs.Asks.{IsAskOf, check_in, offer_in, place_at}
use Rattle.theorems.specs.Statuses.{Says}
use Rattle.theorems.specs.Walks.{IsWalk, last_ask, offers_of, sum_of}
use Rattle.theorems.specs.Events.{Machine}
use Rattle.theorems.specs.Jobs.{EndedJob, Job, Pending, Rendered, Worker, outcomes_of}
use Rattle.theorems.specs.InterleavingLaws.{Always}
use Rattle.theorems.specs.Services.{Service, content_at}

-- what holds of each reply of each worker, by its job
abbrev pub AllReplies : (Job → Rendered → Type 0) → Service → Type 0
AllReplies Holds service =
    All (λ (worker : Worker). All (λ (ended : EndedJob). IfSome ended.rendered (Holds ended.job)) worker.ended)
    service.workers

-- the reply to an app says true to its client, if that wants an update: `noupdate` that it is at its target or that no
-- chain leads there; `error-internal` that no mirror granted the first payload of a chain of the least sum; and an
-- offer that it is of that payload
abbrev pub SaysTrue : List App → List Mirror → List ℕ → AppAsk × Option ℕ → AppReply → Type 0
SaysTrue apps mirrors session asked reply =
    (client : Client) → IsAskOf apps session client asked.0 →
    MatchOption (check_in reply) ⊥ (Says mirrors client asked.0 asked.1)

-- the reply of a job says so to each app of its request, by the app's outcome
pub record SayTrue (mirrors : List Mirror) (history : History) (job : Job) (rendered : Rendered) : Type 0 where
  pub pending : Pending
  pub planned : job.pending ≡ Some pending
  pub each :
      AllZip (SaysTrue (content_at history job.number) mirrors pending.request.session)
      (zip pending.request.apps (outcomes_of pending)) rendered.reply.apps

-- rule: Statuses of every interleaving
-- each reply does
abbrev pub RepliesSayTrue : Machine → Type 0
RepliesSayTrue machine =
    Always machine (λ mirrors start events service. AllReplies (SayTrue mirrors service.history) service)

-- a client that takes an offer can go on, while the catalogue stays as it was for the reply; however the replies go on,
-- it comes to its target, and the bytes of its offers are the least sum of a chain from where it asked
pub record LeadsToTarget (apps : List App) (mirrors : List Mirror) (session : List ℕ) (client : Client) (ask : AppAsk)
    (reply : AppReply) : Type 0 where
  pub rest : List AppReply
  pub walk : IsWalk apps mirrors session ask (reply ∷ rest)
  pub least :
      (others : List AppReply) → IsWalk apps mirrors session ask (reply ∷ others) →
      IsLeast client.app (key_of client) (place_at client ask) (sum_of (offers_of (reply ∷ others)))
      × IsAtTarget client.app (key_of client) (place_at client (last_ask ask (reply ∷ others)))

-- the offer of a reply to an app leads there, if it makes one to a client that wants an update
abbrev pub OfferLeads : List App → List Mirror → List ℕ → AppAsk → AppReply → Type 0
OfferLeads apps mirrors session ask reply =
    (client : Client) (offer : Offer) → IsAskOf apps session client ask → offer_in reply ≡ Some offer →
    LeadsToTarget apps mirrors session client ask reply

-- each offer of a job's reply does
pub record OffersLead (mirrors : List Mirror) (history : History) (job : Job) (rendered : Rendered) : Type 0 where
  pub pending : Pending
  pub planned : job.pending ≡ Some pending
  pub each :
      AllZip (OfferLeads (content_at history job.number) mirrors pending.request.session) pending.request.apps
      rendered.reply.apps

-- each offer of each reply does
abbrev pub OffersLeadToTargets : Machine → Type 0
OffersLeadToTargets machine =
    Always machine (λ mirrors start events service. AllReplies (OffersLead mirrors service.history) service)
