-- Walks: a client takes each offer and asks again, until a reply makes no offer. The content of the
-- catalogue stays the same on the way, and each reply has its own mirror and time; this project's
-- profile.
use Rattle.std.specs.Prelude.{◌≡◌, ℕ, List, [], ◌∷◌, filter_map, MatchOption, sum_by}
use Rattle.std.specs.Option.{option_map_or}
use Rattle.catalogue.specs.declared.content.App.{App}
use Rattle.catalogue.specs.declared.mirror.Mirror.{Mirror}
use Rattle.omaha_json.specs.declared.reply.AppReply.{AppReply}
use Rattle.omaha_json.specs.declared.reply.Offer.{Offer}
use Rattle.omaha_json.specs.declared.request.AppAsk.{AppAsk}
use Rattle.theorems.specs.Asks.{IsReplyTo, next_ask, offer_in, offered_bytes}

-- rule: Walk
-- a walk is the replies to a client in their order: the first one is to its ask; if that makes an offer,
-- the others are a walk from the next ask, and else there are none
abbrev pub IsWalk : List App → List Mirror → List ℕ → AppAsk → List AppReply → Type 0
IsWalk apps mirrors session ask [] = ⊥
IsWalk apps mirrors session ask (reply ∷ replies) =
    IsReplyTo apps mirrors session ask reply
    × MatchOption (next_ask ask reply) (replies ≡ []) (λ next. IsWalk apps mirrors session next replies)

-- the offers of replies
abbrev pub offers_of : List AppReply → List Offer
offers_of replies = filter_map offer_in replies

-- the bytes that a client downloads for offers
abbrev pub sum_of : List Offer → ℕ
sum_of offers = sum_by offered_bytes offers

-- what a client asks on a walk: first so, then after each offer
abbrev pub asks_of : AppAsk → List AppReply → List AppAsk
asks_of ask [] = []
asks_of ask (reply ∷ replies) = ask ∷ option_map_or (λ next. asks_of next replies) (next_ask ask reply) []

-- what a client asks last on a walk
abbrev pub last_ask : AppAsk → List AppReply → AppAsk
last_ask ask [] = ask
last_ask ask (reply ∷ replies) = option_map_or (λ next. last_ask next replies) (next_ask ask reply) ask
