-- What the status of an update check says of a client, and of what a catalogue permits; the Omaha
-- protocol's statuses `noupdate`, `error-internal` and `ok`, this project's profile.
use Rattle.std.specs.Prelude.{◌≡◌, ◌<◌, ◌⊎◌, ℕ, List, length, Option, None, Some}
use Rattle.catalogue.specs.declared.content.Release.{Release}
use Rattle.catalogue.specs.declared.mirror.Mirror.{Mirror}
use Rattle.omaha_json.specs.declared.reply.CheckReply.{CheckReply}
use Rattle.omaha_json.specs.declared.reply.CheckReply.TheVariants as check
use Rattle.omaha_json.specs.declared.reply.Offer.{Offer}
use Rattle.omaha_json.specs.declared.request.AppAsk.{AppAsk}
use Rattle.payload_graph.specs.Chains.{IsAtTarget, bytes_of}
use Rattle.payload_graph.specs.declared.payload.Payload.{Payload}
use Rattle.quotes.specs.Quotes.{IsFirst}
use Rattle.quotes.specs.Sums.{HasNoChain}
use Rattle.replies.specs.Clients.{Client, key_of}
use Rattle.replies.specs.Replies.{codebase_at, diff_of, offer_of, release_by}
use Rattle.theorems.specs.Asks.{offered_bytes, place_at}

-- a client that isn't at its target can go on: there is the first payload of a chain of the least sum,
-- and the release of the app that it leads to
pub record CanGoOn (client : Client) (ask : AppAsk) : Type 0 where
  pub payload : Payload
  pub sum : ℕ
  pub release : Release
  pub away : ¬ (IsAtTarget client.app (key_of client) (place_at client ask))
  pub first : IsFirst client.app (key_of client) (place_at client ask) payload sum
  pub there : release_by client.app payload ≡ Some release

-- the offer of that payload, from the mirror that granted it
pub record IsOffered (mirrors : List Mirror) (client : Client) (ask : AppAsk) (outcome : Option ℕ) (offer : Offer) : Type 0 where
  pub way : CanGoOn client ask
  pub mirror : ℕ
  pub within : mirror < length mirrors
  pub granted : outcome ≡ Some mirror
  pub is : offer ≡ offer_of (codebase_at mirrors mirror) way.release (diff_of client.app way.payload)
  pub bytes : offered_bytes offer ≡ bytes_of client.app way.payload

-- rule: Status of an update check
-- what the reply to a client's update check says: no update, at the target or if no chain leads there;
-- an error, if there is a first payload of a least chain and no mirror granted it; or its offer
abbrev pub Says : List Mirror → Client → AppAsk → Option ℕ → CheckReply → Type 0
Says mirrors client ask outcome check.NoUpdate =
    IsAtTarget client.app (key_of client) (place_at client ask)
    ⊎ HasNoChain client.app (key_of client) (place_at client ask)
Says mirrors client ask outcome check.Internal = CanGoOn client ask × (outcome ≡ None)
Says mirrors client ask outcome (check.Offered offer) = IsOffered mirrors client ask outcome offer
Says mirrors client ask outcome check.Other = ⊥
