-- A walk is a reply, and the walk from the next ask if that makes an offer.
use Rattle.std.proofs.Common.{◌≡◌, ℕ, List, [], ◌∷◌, Option, sym, ap, ◌∙◌, subst, arith}
use Rattle.std.specs.List.{cons_option}
use Rattle.std.specs.Option.{option_map_or, MatchOption}
use Rattle.std.proofs.lemmas.List.Sums.{sum_by-cons}
use Rattle.catalogue.specs.declared.content.App.{App}
use Rattle.catalogue.specs.declared.mirror.Mirror.{Mirror}
use Rattle.omaha_json.specs.declared.reply.AppReply.{AppReply}
use Rattle.omaha_json.specs.declared.reply.Offer.{Offer}
use Rattle.omaha_json.specs.declared.request.AppAsk.{AppAsk}
use Rattle.payload_graph.specs.Chains.{IsAtTarget, destination_of}
use Rattle.payload_graph.specs.declared.place.Place.{Place}
use Rattle.payload_graph.specs.declared.place.Place.TheVariants.{At}
use Rattle.quotes.specs.Sums.{IsLeast}
use Rattle.replies.specs.Clients.{Client, key_of}
use Rattle.theorems.specs.Asks.{IsAskOf, offered_bytes, place_at}
use Rattle.theorems.specs.Walks.{IsWalk, last_ask, offers_of, sum_of}
use Rattle.theorems.proofs.ChainLemmas.{IsLeast-one, IsLeast-target}
use Rattle.theorems.proofs.StepLemmas.{Moves, Stays}

module _ (apps : List App) (mirrors : List Mirror) (session : List ℕ) (client : Client) where
  abbrev Walks : AppAsk → List AppReply → Type 0
  Walks ask replies = IsWalk apps mirrors session ask replies

  abbrev Asks : AppAsk → Type 0
  Asks ask = IsAskOf apps session client ask

  -- after the last reply there are no others
  pub last-reply : (ask : AppAsk) (reply : AppReply) (replies : List AppReply) → Stays client ask reply →
      Walks ask (reply ∷ replies) → replies ≡ []
  last-reply ask reply replies stays walk =
      subst (λ (o : Option AppAsk). MatchOption o (replies ≡ []) (λ next. Walks next replies)) stays.next_is walk.1

  -- after another one the walk goes on
  pub rest-walk : (ask : AppAsk) (reply : AppReply) (replies : List AppReply) → (moves : Moves apps session client ask reply) →
      Walks ask (reply ∷ replies) → Walks moves.next replies
  rest-walk ask reply replies moves walk =
      subst (λ (o : Option AppAsk). MatchOption o (replies ≡ []) (λ next. Walks next replies)) moves.next_is walk.1

  pub offers-last : (ask : AppAsk) (reply : AppReply) (replies : List AppReply) → Stays client ask reply → replies ≡ [] →
      offers_of (reply ∷ replies) ≡ []
  offers-last ask reply replies stays last =
      ap (λ (o : Option Offer). cons_option o (offers_of replies)) stays.made ∙ ap offers_of last

  pub offers-more : (ask : AppAsk) (reply : AppReply) (replies : List AppReply) → (moves : Moves apps session client ask reply) →
      offers_of (reply ∷ replies) ≡ moves.step.offer ∷ offers_of replies
  offers-more ask reply replies moves =
      ap (λ (o : Option Offer). cons_option o (offers_of replies)) moves.step.made

  -- a walk is least, and ends at the target
  abbrev pub IsLeastWalk : AppAsk → List AppReply → Type 0
  IsLeastWalk ask replies =
      IsLeast client.app (key_of client) (place_at client ask) (sum_of (offers_of replies))
      × IsAtTarget client.app (key_of client) (place_at client (last_ask ask replies))

  pub least-last :
      (ask : AppAsk) (reply : AppReply) (replies : List AppReply) (stays : Stays client ask reply) → replies ≡ [] →
      IsAtTarget client.app (key_of client) (place_at client ask) → IsLeastWalk ask (reply ∷ replies)
  least-last ask reply replies stays last at =
      let none = offers-last ask reply replies stays last in
      let ended : last_ask ask (reply ∷ replies) ≡ ask = ap
      (λ (o : Option AppAsk). option_map_or (λ (next : AppAsk). last_ask next replies) o ask) stays.next_is in (
        subst (λ (os : List Offer). IsLeast client.app (key_of client) (place_at client ask) (sum_of os)) (sym none)
            (IsLeast-target client.app (key_of client) (place_at client ask) at),
        subst (λ (a : AppAsk). IsAtTarget client.app (key_of client) (place_at client a)) (sym ended) at,
      )

  pub least-more :
      (ask : AppAsk) (reply : AppReply) (replies : List AppReply) (moves : Moves apps session client ask reply) →
      IsLeastWalk moves.next replies → IsLeastWalk ask (reply ∷ replies)
  least-more ask reply replies moves others =
      let way = moves.step.way in
      let begins = way.first.begins in
      let there : Place = At (destination_of client.app way.payload) in
      let rest = subst (λ (p : Place). IsLeast client.app (key_of client) p (sum_of (offers_of replies))) moves.step.moved
      others.0 in
      let same : sum_of (offers_of replies) ≡ begins.rest = IsLeast-one client.app (key_of client) there
      (sum_of (offers_of replies)) begins.rest rest begins.rest_least in
      let adds = begins.adds_up in
      let bytes = moves.step.bytes in
      let whole = sum_by-cons offered_bytes moves.step.offer (offers_of replies) in
      let total : way.sum ≡ sum_of (moves.step.offer ∷ offers_of replies) = omega arith in
      let all : way.sum ≡ sum_of (offers_of (reply ∷ replies)) = total ∙ ap sum_of (sym (offers-more ask reply replies moves)) in
      let ended : last_ask ask (reply ∷ replies) ≡ last_ask moves.next replies = ap
      (λ (o : Option AppAsk). option_map_or (λ (next : AppAsk). last_ask next replies) o ask) moves.next_is in (
        subst (λ (n : ℕ). IsLeast client.app (key_of client) (place_at client ask) n) all way.first.least,
        subst (λ (a : AppAsk). IsAtTarget client.app (key_of client) (place_at client a)) (sym ended) others.1,
      )
