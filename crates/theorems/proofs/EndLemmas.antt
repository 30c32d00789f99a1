-- Where a walk ends, what it costs, and that the client stays the same.
use Rattle.std.proofs.Common.{◌≡◌, ℕ, ◌⊎◌, inl, inr, List, [], ◌∷◌, ◌++◌, map, Option, Some, All, sym, ap, ◌∙◌, subst}
use Rattle.std.specs.List.{AllByRecursion}
use Rattle.std.specs.Option.{option_map_or}
use Rattle.std.proofs.lemmas.List.Elements.{All-from_recursion}
use Rattle.catalogue.specs.VersionLaws.{BelowIsIrreflexive, BelowIsTransitive}
use Rattle.catalogue.specs.Validity.{IsValid}
use Rattle.catalogue.specs.declared.content.App.{App}
use Rattle.catalogue.specs.declared.mirror.Mirror.{Mirror}
use Rattle.cohorts.specs.Laws.{ParsedIsPrinted, PrintedIsParsed}
use Rattle.omaha_json.specs.declared.reply.AppReply.{AppReply}
use Rattle.omaha_json.specs.declared.reply.CheckReply.{CheckReply}
use Rattle.omaha_json.specs.declared.reply.CheckReply.TheVariants as check
use Rattle.omaha_json.specs.declared.reply.Offer.{Offer}
use Rattle.omaha_json.specs.declared.request.AppAsk.{AppAsk}
use Rattle.payload_graph.specs.Chains.{IsChain}
use Rattle.payload_graph.specs.declared.payload.Payload.{Payload}
use Rattle.payload_graph.specs.declared.place.Place.{Place}
use Rattle.quotes.specs.Sums.{HasNoChain}
use Rattle.replies.specs.Clients.{Client, client_of, key_of}
use Rattle.theorems.specs.Asks.{IsAskOf, IsReplyTo, check_in, place_at}
use Rattle.theorems.specs.Laws.{offered}
use Rattle.theorems.specs.Walks.{IsWalk, asks_of, offers_of}
use Rattle.theorems.proofs.StepLemmas.{Moves, Stays, Stays-or-Moves}
use Rattle.theorems.proofs.FollowLemmas.{IsLeastWalk, last-reply, least-last, least-more, offers-last, offers-more, rest-walk}

module _ (irreflexive : BelowIsIrreflexive) (transitive : BelowIsTransitive) (printed_is : PrintedIsParsed)
    (parsed_is : ParsedIsPrinted) (apps : List App) (valid : IsValid apps) (mirrors : List Mirror) (session : List ℕ)
    (client : Client) where
  abbrev Walks : AppAsk → List AppReply → Type 0
  Walks ask replies = IsWalk apps mirrors session ask replies

  abbrev Asks : AppAsk → Type 0
  Asks ask = IsAskOf apps session client ask

  abbrev goes : (ask : AppAsk) (reply : AppReply) → Asks ask → IsReplyTo apps mirrors session ask reply →
      Stays client ask reply ⊎ Moves apps session client ask reply
  goes ask reply asks replied =
      Stays-or-Moves irreflexive transitive printed_is parsed_is apps valid mirrors session client ask reply asks replied

  -- the replies of a walk are its offers and then one without an update
  pub walk-ends : (replies : List AppReply) (ask : AppAsk) → Asks ask → Walks ask replies →
      map check_in replies ≡ map offered (offers_of replies) ++ Some check.NoUpdate ∷ []
  walk-ends [] ask asks walk = absurd walk
  walk-ends (reply ∷ replies) ask asks walk = elim (goes ask reply asks walk.0) [
    | inl stays ↦
        let last = last-reply apps mirrors session client ask reply replies stays walk in
        ap (λ (o : Option CheckReply). o ∷ map check_in replies) stays.checked
        ∙ ap (λ (rs : List AppReply). Some check.NoUpdate ∷ map check_in rs) last
        ∙ sym (ap (λ (os : List Offer). map offered os ++ Some check.NoUpdate ∷ [])
        (offers-last apps mirrors session client ask reply replies stays last))
    | inr moves ↦
        ap (λ (o : Option CheckReply). o ∷ map check_in replies) moves.checked
        ∙ ap (λ (rs : List (Option CheckReply)). offered moves.step.offer ∷ rs)
        (walk-ends replies moves.next moves.step.asks (rest-walk apps mirrors session client ask reply replies moves walk))
        ∙ sym (ap (λ (os : List Offer). map offered os ++ Some check.NoUpdate ∷ [])
        (offers-more apps mirrors session client ask reply replies moves))
  ]

  -- if no chain reaches the target, a walk makes no offer
  pub walk-nowhere : (replies : List AppReply) (ask : AppAsk) → Asks ask → Walks ask replies →
      HasNoChain client.app (key_of client) (place_at client ask) → offers_of replies ≡ []
  walk-nowhere [] ask asks walk none = absurd walk
  walk-nowhere (reply ∷ replies) ask asks walk none = elim (goes ask reply asks walk.0) [
    | inl stays ↦ offers-last apps mirrors session client ask reply replies stays
        (last-reply apps mirrors session client ask reply replies stays walk)
    | inr moves ↦ let least = moves.step.way.first.least in absurd (none least.chain least.leads)
  ]

  pub walk-least : (replies : List AppReply) (ask : AppAsk) (chain : List Payload) → Asks ask → Walks ask replies →
      IsChain client.app (key_of client) (place_at client ask) chain → IsLeastWalk apps mirrors session client ask replies
  walk-least [] ask chain asks walk leads = absurd walk
  walk-least (reply ∷ replies) ask chain asks walk leads = elim (goes ask reply asks walk.0) [
    | inl stays ↦ elim stays.why [
      | inl at ↦ least-last apps mirrors session client ask reply replies stays
          (last-reply apps mirrors session client ask reply replies stays walk) at
      | inr none ↦ absurd (none chain leads)
    ]
    | inr moves ↦
        let rest = moves.step.way.first.begins.rest_least in
        let goes_on = subst (λ (p : Place). IsChain client.app (key_of client) p rest.chain) (sym moves.step.moved) rest.leads in
        least-more apps mirrors session client ask reply replies moves
        (walk-least replies moves.next rest.chain moves.step.asks
        (rest-walk apps mirrors session client ask reply replies moves walk) goes_on)
  ]

  -- the client is the same at each ask
  abbrev IsSame : AppAsk → Type 0
  IsSame asked = client_of apps session asked ≡ Some client

  walk-same : (replies : List AppReply) (ask : AppAsk) → Asks ask → Walks ask replies →
      AllByRecursion IsSame (asks_of ask replies)
  walk-same [] ask asks walk = absurd walk
  walk-same (reply ∷ replies) ask asks walk = elim (goes ask reply asks walk.0) [
    | inl stays ↦ (
      asks.known,
      subst (λ (o : Option AppAsk). AllByRecursion IsSame (option_map_or (λ (next : AppAsk). asks_of next replies) o []))
          (sym stays.next_is) tt,
    )
    | inr moves ↦ (
      asks.known,
      subst (λ (o : Option AppAsk). AllByRecursion IsSame (option_map_or (λ (next : AppAsk). asks_of next replies) o []))
          (sym moves.next_is)
          (walk-same replies moves.next moves.step.asks (rest-walk apps mirrors session client ask reply replies moves walk)),
    )
  ]

  pub walk-track : (replies : List AppReply) (ask : AppAsk) → Asks ask → Walks ask replies → All IsSame (asks_of ask replies)
  walk-track replies ask asks walk = All-from_recursion IsSame (asks_of ask replies) (walk-same replies ask asks walk)
