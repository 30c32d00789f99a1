-- What a client sees of a reply, and what it asks next: the Omaha protocol 3.1, this project's
-- profile. A reply here is the one to a single app, whose requested bytes some mirror granted.
use Rattle.std.specs.Prelude.{◌≡◌, ◌<◌, true, ℕ, List, [], ◌∷◌, length, Option, None, Some, MatchOption, option_and_then, option_map}
use Rattle.std.specs.Option.{option_map_or}
use Rattle.catalogue.specs.declared.content.App.{App}
use Rattle.catalogue.specs.declared.mirror.Mirror.{Mirror}
use Rattle.omaha_json.specs.declared.reply.AppReply.{AppReply}
use Rattle.omaha_json.specs.declared.reply.AppState.{AppState}
use Rattle.omaha_json.specs.declared.reply.AppState.TheVariants as state
use Rattle.omaha_json.specs.declared.reply.CheckReply.{CheckReply}
use Rattle.omaha_json.specs.declared.reply.CheckReply.TheVariants as check
use Rattle.omaha_json.specs.declared.reply.KnownApp.{KnownApp}
use Rattle.omaha_json.specs.declared.reply.Offer.{Offer}
use Rattle.omaha_json.specs.declared.request.AppAsk.{AppAsk}
use Rattle.omaha_json.specs.declared.request.Request.{Request}
use Rattle.payload_graph.specs.Places.{place_of}
use Rattle.payload_graph.specs.declared.place.Place.{Place}
use Rattle.replies.specs.Clients.{Client, client_of}
use Rattle.replies.specs.Plans.{IsChosen, payload_in, wants_update}
use Rattle.replies.specs.Replies.{app_reply}
use Rattle.replies.specs.declared.choices.Choice.{Choice}

-- an ask is that of a client of a known app, and wants an update
pub record IsAskOf (apps : List App) (session : List ℕ) (client : Client) (ask : AppAsk) : Type 0 where
  pub known : client_of apps session ask ≡ Some client
  pub wants : wants_update ask ≡ true

-- where a client is when it asks
abbrev pub place_at : Client → AppAsk → Place
place_at client ask = place_of client.app.releases ask.fp ask.version

-- the outcome of an update check whose bytes were granted: one of the mirrors, or none if nothing was
-- chosen
abbrev pub IsGranted : List Mirror → Option Choice → Option ℕ → Type 0
IsGranted mirrors None outcome = outcome ≡ None
IsGranted mirrors (Some choice) outcome = MatchOption outcome ⊥ (λ mirror. mirror < length mirrors)

-- rule: Reply to an ask
-- the reply to an ask: what is chosen for the client is offered, from a mirror that granted its bytes
pub record IsReplyTo (apps : List App) (mirrors : List Mirror) (session : List ℕ) (ask : AppAsk) (reply : AppReply) : Type 0 where
  pub choice : Option Choice
  pub outcome : Option ℕ
  pub chosen : IsChosen apps session ask choice
  pub granted : IsGranted mirrors choice outcome
  pub is : reply ≡ app_reply apps session mirrors (ask, (payload_in choice, outcome))

-- the request of a session that asks so for one app and for no other
abbrev pub asking_alone : List ℕ → AppAsk → Request
asking_alone session ask = record { session = session; apps = ask ∷ [] }

-- what a reply says of an app, if the app is known
abbrev pub known_in : AppState → Option KnownApp
known_in (state.Known known) = Some known
known_in state.Unknown = None
known_in state.Other = None

-- the reply to the update check, if there is one
abbrev pub check_in : AppReply → Option CheckReply
check_in reply = option_and_then (λ (known : KnownApp). known.check) (known_in reply.state)

-- the offer of a reply to an update check, if it is one
abbrev pub offer_by : CheckReply → Option Offer
offer_by check.NoUpdate = None
offer_by check.Internal = None
offer_by (check.Offered offer) = Some offer
offer_by check.Other = None

-- the offer of a reply, if it makes one
abbrev pub offer_in : AppReply → Option Offer
offer_in reply = option_and_then offer_by (check_in reply)

-- what a client asks that has installed an offer: it sends the offered version and fingerprint and the
-- cohort text of the reply, and all else as before
abbrev pub ask_after : AppAsk → KnownApp → Offer → AppAsk
ask_after ask known offer = record ask { version = offer.version; fp = offer.fp; cohort = known.cohort }

-- rule: Next ask
-- what a client asks next, none if the reply makes no offer
abbrev pub next_ask : AppAsk → AppReply → Option AppAsk
next_ask ask reply =
    option_and_then
    (λ (known : KnownApp). option_map (ask_after ask known) (option_and_then offer_by known.check))
    (known_in reply.state)

-- the bytes that a client downloads for an offer: those of the differential if there is one, else those
-- of the full package
abbrev pub offered_bytes : Offer → ℕ
offered_bytes offer = option_map_or (λ part. part.size) offer.diff offer.full.size
