-- What a client hears in the reply to its one app, and what it asks next.
use Rattle.std.proofs.Common.{◌≡◌, ℕ, List, [], ◌∷◌, Bool, true, false, cond, Option, None, Some, Ok, option_map, option_and_then, unwrap_or, refl, ◌∙◌, ap, subst}
use Rattle.std.specs.Option.{option_map_or}
use Rattle.std.specs.Str.{str_eq_ignore_ascii_case}
use Rattle.omaha_json.specs.declared.reply.AppReply.{AppReply}
use Rattle.omaha_json.specs.declared.reply.AppState.{AppState}
use Rattle.omaha_json.specs.declared.reply.AppState.TheVariants as state
use Rattle.omaha_json.specs.declared.reply.CheckReply.{CheckReply}
use Rattle.omaha_json.specs.declared.reply.CheckReply.TheVariants as check
use Rattle.omaha_json.specs.declared.reply.KnownApp.{KnownApp}
use Rattle.omaha_json.specs.declared.reply.Offer.{Offer}
use Rattle.omaha_json.specs.declared.reply.Part.{Part}
use Rattle.omaha_json.specs.declared.request.AppAsk.{AppAsk}
use Rattle.catalogue.specs.declared.mirror.Mirror.{Mirror}
use Rattle.cohorts.specs.CohortTexts.{printed}
use Rattle.replies.specs.Clients.{Client, cohort_of}
use Rattle.replies.specs.Replies.{Decision, known_app, state_of}
use Rattle.theorems.specs.Asks.{ask_after, next_ask, offer_by, offer_in, offered_bytes}
use Rattle.theorems.specs.Asks as asks
use Rattle.update_client.specs.Clients.{cohort_after, known_in, news_in, news_of, only_known, part_of}
use Rattle.update_client.specs.declared.hearing.Accepted.{Accepted}

-- the app of a reply is known, and so much is heard of it
pub record IsKnownAs (reply : AppReply) (news : Option Accepted) : Type 0 where
  pub known : KnownApp
  pub is : reply.state ≡ state.Known known
  pub heard : news_in known.cohort known.check ≡ Ok news

known_by : (same : Bool) (app : AppState) (news : Option Accepted)
    → news_of (cond same (known_in app) None) ≡ Ok news
    → (known : KnownApp) × (app ≡ state.Known known) × (news_in known.cohort known.check ≡ Ok news)
known_by false app news said = cc
known_by true (state.Known known) news said = (known, refl, said)
known_by true state.Unknown news said = cc
known_by true state.Other news said = cc

-- what is heard of a reply to one app is heard of that app, which is known
pub known_from : (app : List ℕ) (reply : AppReply) (news : Option Accepted)
    → news_of (only_known app (reply ∷ [])) ≡ Ok news → IsKnownAs reply news
known_from app reply news said =
    let (known, is, heard) =
    known_by (str_eq_ignore_ascii_case reply.appid app) reply.state news said in
    record { known = known; is = is; heard = heard }

-- an offer that is heard is the one of the update check, with the cohort text
pub offer_heard : (cohort : List ℕ) (reply : Option CheckReply) (accepted : Accepted)
    → news_in cohort reply ≡ Ok (Some accepted)
    → (reply ≡ Some (check.Offered accepted.offer)) × (cohort ≡ accepted.cohort)
offer_heard cohort None accepted said = cc
offer_heard cohort (Some check.NoUpdate) accepted said = cc
offer_heard cohort (Some check.Internal) accepted said = cc
offer_heard cohort (Some check.Other) accepted said = cc
offer_heard cohort (Some (check.Offered offer)) accepted said =
    let made : Accepted = record { cohort = cohort; offer = offer } in
    let same : made ≡ accepted = cc in (
      ap (λ (a : Accepted). Some (check.Offered a.offer)) same,
      ap (λ (a : Accepted). a.cohort) same,
    )

-- no update is heard only of such an update check
pub none_heard : (cohort : List ℕ) (reply : Option CheckReply)
    → news_in cohort reply ≡ Ok None → reply ≡ Some check.NoUpdate
none_heard cohort None said = cc
none_heard cohort (Some check.NoUpdate) said = refl
none_heard cohort (Some check.Internal) said = cc
none_heard cohort (Some check.Other) said = cc
none_heard cohort (Some (check.Offered offer)) said = cc

-- after an offer a client asks for what comes after it
pub next-offered : (ask : AppAsk) (reply : AppReply) (known : KnownApp) (offer : Offer)
    → reply.state ≡ state.Known known → known.check ≡ Some (check.Offered offer)
    → next_ask ask reply ≡ Some (ask_after ask known offer)
next-offered ask reply known offer is made =
    ap (λ (app : AppState). option_and_then (λ (k : KnownApp). option_map (ask_after ask k) (option_and_then offer_by k.check)) (asks.known_in app)) is
    ∙ ap (λ (c : Option CheckReply). option_map (ask_after ask known) (option_and_then offer_by c)) made

-- after no update it asks no more
pub next-no_update : (ask : AppAsk) (reply : AppReply) (known : KnownApp)
    → reply.state ≡ state.Known known → known.check ≡ Some check.NoUpdate
    → next_ask ask reply ≡ None
next-no_update ask reply known is said =
    ap (λ (app : AppState). option_and_then (λ (k : KnownApp). option_map (ask_after ask k) (option_and_then offer_by k.check)) (asks.known_in app)) is
    ∙ ap (λ (c : Option CheckReply). option_map (ask_after ask known) (option_and_then offer_by c)) said

-- the offer of a reply to a known app is that of its update check
pub offer_in-known : (reply : AppReply) (known : KnownApp) (said : CheckReply)
    → reply.state ≡ state.Known known → known.check ≡ Some said
    → offer_in reply ≡ offer_by said
offer_in-known reply known said is made =
    ap (λ (app : AppState). option_and_then offer_by (option_and_then (λ (k : KnownApp). k.check) (asks.known_in app))) is
    ∙ ap (λ (c : Option CheckReply). option_and_then offer_by c) made

printed_replaces : (old name : List ℕ) (bucket : ℕ) → cohort_after old (printed name bucket) ≡ printed name bucket
printed_replaces old [] bucket = refl
printed_replaces old (byte ∷ name) bucket = refl

-- a server's reply to a known app has a cohort text, which replaces the client's
pub cohort_after-known : (old : List ℕ) (mirrors : List Mirror) (client : Option Client) (ask : AppAsk)
    (decision : Decision) (known : KnownApp)
    → state_of mirrors client ask decision ≡ state.Known known
    → cohort_after old known.cohort ≡ known.cohort
cohort_after-known old mirrors None ask decision known is = cc
cohort_after-known old mirrors (Some client) ask decision known is =
    let same : known_app mirrors client ask decision ≡ known = cc in
    subst (λ (k : KnownApp). cohort_after old k.cohort ≡ k.cohort) same
    (printed_replaces old (cohort_of client).name client.track.bucket)

part_size : (full : Part) (diff : Option Part)
    → option_map_or (λ (part : Part). part.size) diff full.size ≡ (unwrap_or diff full).size
part_size full None = refl
part_size full (Some diff) = refl

-- the bytes of an offer are the size of the file that a client takes
pub offered_bytes-size : (offer : Offer) → offered_bytes offer ≡ (part_of offer).size
offered_bytes-size offer = part_size offer.full offer.diff
