-- What holds of the replies to clients and of their walks, in every content that a history of accepted
-- batches leads to.
use Rattle.std.specs.Prelude.{◌≡◌, ◌≤◌, ◌++◌, All, ℕ, List, [], ◌∷◌, length, map, Option, Some, MatchOption}
use Rattle.std.specs.List.{AllZip}
use Rattle.catalogue.specs.Validity.{IsValidApp}
use Rattle.catalogue.specs.declared.content.App.{App}
use Rattle.catalogue.specs.declared.mirror.Mirror.{Mirror}
use Rattle.catalogue.specs.Histories.{History}
use Rattle.omaha_json.specs.declared.reply.AppReply.{AppReply}
use Rattle.omaha_json.specs.declared.reply.CheckReply.{CheckReply}
use Rattle.omaha_json.specs.declared.reply.CheckReply.TheVariants as check
use Rattle.omaha_json.specs.declared.reply.Offer.{Offer}
use Rattle.omaha_json.specs.declared.request.AppAsk.{AppAsk}
use Rattle.omaha_json.specs.declared.request.Request.{Request}
use Rattle.payload_graph.specs.Chains.{IsAtTarget, IsChain, bytes_of, destination_of}
use Rattle.payload_graph.specs.Net.{Net, net_in}
use Rattle.payload_graph.specs.declared.payload.Payload.{Payload}
use Rattle.payload_graph.specs.declared.payload.TrackKey.{TrackKey}
use Rattle.payload_graph.specs.declared.place.Place.TheVariants.{At}
use Rattle.price_cert.specs.Laws.{IsGraph}
use Rattle.quotes.specs.Sums.{HasNoChain, IsLeast}
use Rattle.editions.specs.Editions.{content_of}
use Rattle.replies.specs.Clients.{Client, client_of, key_of}
use Rattle.replies.specs.Plans.{IsChosen, IsPlan, payload_in, payloads_of}
use Rattle.replies.specs.Replies.{IsOutcome, app_reply, reply_of}
use Rattle.replies.specs.declared.choices.Choice.{Choice}
use Rattle.theorems.specs.Asks.{IsAskOf, IsGranted, IsReplyTo, asking_alone, check_in, next_ask, offer_in, offered_bytes, place_at}
use Rattle.theorems.specs.Statuses.{CanGoOn, Says}
use Rattle.theorems.specs.Walks.{IsWalk, asks_of, last_ask, offers_of, sum_of}

-- of a request that is replied to by a plan whose bytes were all granted, each app gets a reply to its
-- ask, whatever the time
abbrev pub AsksGetReplies : Type 0
AsksGetReplies =
    (apps : List App) (mirrors : List Mirror) (request : Request) (plan : List (Option Choice)) (outcomes : List (Option ℕ))
    (moment : ℕ) →
    IsPlan apps request plan →
    AllZip (IsGranted mirrors) plan outcomes →
    AllZip (IsReplyTo apps mirrors request.session) request.apps
    (reply_of apps request (payloads_of plan) outcomes mirrors moment).apps

-- a whole reply to a request for one app, by a plan whose bytes were all granted, at each time
pub record IsWhole (apps : List App) (mirrors : List Mirror) (session : List ℕ) (ask : AppAsk) (reply : AppReply) : Type 0 where
  pub plan : List (Option Choice)
  pub outcomes : List (Option ℕ)
  pub planned : IsPlan apps (asking_alone session ask) plan
  pub granted : AllZip (IsGranted mirrors) plan outcomes
  pub is :
      (moment : ℕ) →
      (reply_of apps (asking_alone session ask) (payloads_of plan) outcomes mirrors moment).apps ≡ reply ∷ []

-- each reply to an ask is one that such a whole reply consists of
abbrev pub RepliesAreWhole : Type 0
RepliesAreWhole =
    (apps : List App) (mirrors : List Mirror) (session : List ℕ) (ask : AppAsk) (reply : AppReply) →
    IsReplyTo apps mirrors session ask reply → IsWhole apps mirrors session ask reply

-- the status of an update check says what it should, granted or not
abbrev pub StatusesSay : Type 0
StatusesSay =
    (history : History) (mirrors : List Mirror) (session : List ℕ) (client : Client) (ask : AppAsk) (choice : Option Choice)
    (outcome : Option ℕ) →
    IsAskOf (content_of history) session client ask →
    IsChosen (content_of history) session ask choice →
    IsOutcome mirrors choice outcome →
    MatchOption (check_in (app_reply (content_of history) session mirrors (ask, (payload_in choice, outcome)))) ⊥
    (Says mirrors client ask outcome)

-- a request has one plan by each content
abbrev pub PlansAreOne : Type 0
PlansAreOne =
    (history : History) (request : Request) (one other : List (Option Choice)) →
    IsPlan (content_of history) request one → IsPlan (content_of history) request other → one ≡ other

-- the graph of a track of a valid app is one: its target and its releases are those of the app, and its payloads lead
-- nearer the target and have valid sizes
abbrev pub TrackGraphsAreGraphs : Type 0
TrackGraphsAreGraphs = (app : App) (key : TrackKey) (net : Net) → IsValidApp app → net_in app key ≡ Some net → IsGraph net

-- a step of a walk: the client is the same, in its app and on its track, and it goes by what leads it on
-- to the release that this payload leads to
pub record IsStep (apps : List App) (session : List ℕ) (client : Client) (ask : AppAsk) (reply : AppReply)
    (next : AppAsk) : Type 0 where
  pub asks : IsAskOf apps session client next
  pub offer : Offer
  pub made : offer_in reply ≡ Some offer
  pub way : CanGoOn client ask
  pub bytes : offered_bytes offer ≡ bytes_of client.app way.payload
  pub moved : place_at client next ≡ At (destination_of client.app way.payload)

-- each offer is such a step
abbrev pub OffersAreSteps : Type 0
OffersAreSteps =
    (history : History) (mirrors : List Mirror) (session : List ℕ) (client : Client) (ask next : AppAsk) (reply : AppReply) →
    IsAskOf (content_of history) session client ask →
    IsReplyTo (content_of history) mirrors session ask reply →
    next_ask ask reply ≡ Some next →
    IsStep (content_of history) session client ask reply next

-- a client can walk wherever there is a mirror
abbrev pub WalksExist : Type 0
WalksExist =
    (history : History) (mirrors : List Mirror) (session : List ℕ) (client : Client) (ask : AppAsk) →
    1 ≤ length mirrors →
    IsAskOf (content_of history) session client ask →
    (replies : List AppReply) × IsWalk (content_of history) mirrors session ask replies

-- a walk makes at most as many offers as the app has releases
abbrev pub WalksAreShort : Type 0
WalksAreShort =
    (history : History) (mirrors : List Mirror) (session : List ℕ) (client : Client) (ask : AppAsk) (replies : List AppReply) →
    IsAskOf (content_of history) session client ask →
    IsWalk (content_of history) mirrors session ask replies →
    length (offers_of replies) ≤ length client.app.releases

-- a walk that begins where a chain leads to the target ends there, and its bytes are the least sum of a
-- chain
abbrev pub WalksAreLeast : Type 0
WalksAreLeast =
    (history : History) (mirrors : List Mirror) (session : List ℕ) (client : Client) (ask : AppAsk) (replies : List AppReply)
    (chain : List Payload) →
    IsAskOf (content_of history) session client ask →
    IsWalk (content_of history) mirrors session ask replies →
    IsChain client.app (key_of client) (place_at client ask) chain →
    IsLeast client.app (key_of client) (place_at client ask) (sum_of (offers_of replies))
    × IsAtTarget client.app (key_of client) (place_at client (last_ask ask replies))

-- a walk makes no offer if no chain leads from its start to the target
abbrev pub WalksNeedChains : Type 0
WalksNeedChains =
    (history : History) (mirrors : List Mirror) (session : List ℕ) (client : Client) (ask : AppAsk) (replies : List AppReply) →
    IsAskOf (content_of history) session client ask →
    IsWalk (content_of history) mirrors session ask replies →
    HasNoChain client.app (key_of client) (place_at client ask) →
    offers_of replies ≡ []

-- the reply to an update check that makes an offer
abbrev pub offered : Offer → Option CheckReply
offered offer = Some (check.Offered offer)

-- the replies of a walk are its offers and then one without an update
abbrev pub WalksEnd : Type 0
WalksEnd =
    (history : History) (mirrors : List Mirror) (session : List ℕ) (client : Client) (ask : AppAsk) (replies : List AppReply) →
    IsAskOf (content_of history) session client ask →
    IsWalk (content_of history) mirrors session ask replies →
    map check_in replies ≡ map offered (offers_of replies) ++ Some check.NoUpdate ∷ []

-- a client stays the same on its walk: its app, its cohort, its bucket, its lane, its rollback, its pin and its target
abbrev pub WalksKeepTracks : Type 0
WalksKeepTracks =
    (history : History) (mirrors : List Mirror) (session : List ℕ) (client : Client) (ask : AppAsk) (replies : List AppReply) →
    IsAskOf (content_of history) session client ask →
    IsWalk (content_of history) mirrors session ask replies →
    All (λ (asked : AppAsk). client_of (content_of history) session asked ≡ Some client) (asks_of ask replies)
