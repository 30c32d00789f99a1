-- A client's walk over served posts is a walk of its replies.
use Rattle.std.proofs.Common.{◌≡◌, ℕ, ◌+◌, List, [], ◌∷◌, ◌++◌, length, Option, None, Some, Ok, MatchOption, refl, sym, ◌∙◌, ap, subst, arith}
use Rattle.std.specs.Prelude.{All, IsUtf8, true}
use Rattle.std.specs.List.{AllZip, cons_option, list_all}
use Rattle.std.specs.Option.{option_map_or}
use Rattle.std.proofs.lemmas.List.Elements.{All-head, All-tail}
use Rattle.std.proofs.lemmas.List.Sums.{sum_by-cons}
use Rattle.catalogue.specs.Mirrors.{is_mirror}
use Rattle.catalogue.specs.Validity.{IsValid}
use Rattle.catalogue.specs.declared.content.App.{App}
use Rattle.catalogue.specs.declared.mirror.Mirror.{Mirror}
use Rattle.omaha_json.specs.declared.reply.AppReply.{AppReply}
use Rattle.omaha_json.specs.declared.reply.CheckReply.TheVariants as check
use Rattle.omaha_json.specs.declared.reply.Offer.{Offer}
use Rattle.omaha_json.specs.declared.reply.Reply.{Reply}
use Rattle.omaha_json.specs.declared.request.AppAsk.{AppAsk}
use Rattle.omaha_json.specs.ReplyWriting.{reply_bytes}
use Rattle.omaha_json.specs.ReplyReading.{reply_of_bytes}
use Rattle.omaha_json.specs.Soundness.{IsSound}
use Rattle.replies.specs.Plans.{payload_in, payloads_of}
use Rattle.replies.specs.Clients.{client_of}
use Rattle.replies.specs.Replies.{reply_of}
use Rattle.theorems.specs.Asks.{IsReplyTo, ask_after, next_ask, offer_in, offered_bytes}
use Rattle.theorems.specs.Laws.{AsksGetReplies}
use Rattle.theorems.specs.Walks.{IsWalk, last_ask, offers_of, sum_of}
use Rattle.update_client.specs.Clients.{ask_of, client_after, cohort_after, heard, news_from, news_of, only_known, part_of, request_of}
use Rattle.update_client.specs.Installed.{Installed}
use Rattle.update_client.specs.Walks.{Follows, IsReadBack, Post, Turn, bytes_of, post_of, posts_of}
use Rattle.theorems.specs.Served.{IsServedPost}
use Rattle.theorems.proofs.SoundLemmas.{IsSound-reply_of}
use Rattle.theorems.proofs.HeardLemmas.{cohort_after-known, known_from, next-no_update, next-offered, none_heard, offer_heard, offer_in-known, offered_bytes-size}

alone : {A B : Type 0} (R : A → B → Type 0) (x : A) (ys : List B) → AllZip R (x ∷ []) ys
    → (y : B) × (ys ≡ y ∷ []) × R x y
alone R x [] all = absurd all
alone R x (y ∷ []) all = (y, refl, all.0)
alone R x (y ∷ z ∷ ys) all = absurd all.1

-- the reply to a client's ask, and that the client hears it
record IsHeardAs (apps : List App) (mirrors : List Mirror) (client : Installed) (bytes : List ℕ) : Type 0 where
  reply : AppReply
  replied : IsReplyTo apps mirrors client.session (ask_of client) reply
  heard_is : heard client.app bytes ≡ news_of (only_known client.app (reply ∷ []))

-- the replies that lead a client from one state to another
pub record Served (apps : List App) (mirrors : List Mirror) (client : Installed) (turns : List Turn) (after : Installed) : Type 0 where
  pub replies : List AppReply
  pub walks : IsWalk apps mirrors client.session (ask_of client) replies
  pub last : last_ask (ask_of client) replies ≡ ask_of after
  pub count : length (offers_of replies) ≡ length turns
  pub sum : sum_of (offers_of replies) ≡ bytes_of turns

module _ (read_back : (reply : Reply) → IsSound reply → reply_of_bytes (reply_bytes reply) ≡ Ok reply)
    (each : AsksGetReplies) (apps : List App) (mirrors : List Mirror) (valid : IsValid apps)
    (formed : list_all is_mirror mirrors ≡ true) where
  heard_as : (client : Installed) (bytes : List ℕ) → IsUtf8 client.app → IsReadBack client
      → IsServedPost apps mirrors (post_of client bytes)
      → IsHeardAs apps mirrors client bytes
  heard_as client bytes named read_as served =
      let so = served (request_of client) read_as in
      let whole : Reply = reply_of apps (request_of client) (payloads_of so.plan) so.outcomes mirrors so.moment in
      let sound : IsSound whole =
      IsSound-reply_of apps valid.apps_valid mirrors formed (request_of client) (named, tt) (payloads_of so.plan) so.outcomes
      so.moment so.dated in
      let read : reply_of_bytes bytes ≡ Ok whole = ap reply_of_bytes so.is ∙ read_back whole sound in
      let all = each apps mirrors (request_of client) so.plan so.outcomes so.moment so.planned so.granted in
      let (reply, only, replied) =
      alone (IsReplyTo apps mirrors client.session) (ask_of client) whole.apps all in
      record {
        reply = reply;
        replied = replied;
        heard_is = ap (news_from client.app) read ∙ ap (λ (some : List AppReply). news_of (only_known client.app some)) only;
      }

  -- no update ends the walk where the client is
  ending : (client : Installed) (bytes : List ℕ) → IsUtf8 client.app → IsReadBack client → heard client.app bytes ≡ Ok None
      → IsServedPost apps mirrors (post_of client bytes) → Served apps mirrors client [] client
  ending client bytes named read_as said served =
      let so = heard_as client bytes named read_as served in
      let is = known_from client.app so.reply None (sym so.heard_is ∙ said) in
      let status = none_heard is.known.cohort is.known.check is.heard in
      let none : next_ask (ask_of client) so.reply ≡ None = next-no_update (ask_of client) so.reply is.known is.is status in
      let no_offer : offer_in so.reply ≡ None = offer_in-known so.reply is.known check.NoUpdate is.is status in
      let offers : offers_of (so.reply ∷ []) ≡ [] = ap (λ (o : Option Offer). cons_option o []) no_offer in
      let P : Option AppAsk → Type 0 =
      λ o. MatchOption o ((let rest : List AppReply = [] in rest) ≡ []) (λ next. IsWalk apps mirrors client.session next []) in
      record {
        replies = so.reply ∷ [];
        walks = (so.replied, subst P (sym none) refl);
        last = ap (λ (o : Option AppAsk). option_map_or (λ next. last_ask next []) o (ask_of client)) none;
        count = ap (λ (some : List Offer). length some) offers;
        sum = ap sum_of offers;
      }

  -- an offer that was installed goes before the rest of the walk
  stepping : (client : Installed) (turn : Turn) (turns : List Turn) (after : Installed)
      → IsUtf8 client.app → IsReadBack client
      → heard client.app turn.reply ≡ Ok (Some turn.accepted)
      → IsServedPost apps mirrors (post_of client turn.reply)
      → Served apps mirrors (client_after client turn.accepted) turns after
      → Served apps mirrors client (turn ∷ turns) after
  stepping client turn turns after named read_as said served rest =
      let so = heard_as client turn.reply named read_as served in
      let is = known_from client.app so.reply (Some turn.accepted) (sym so.heard_is ∙ said) in
      let (made, named) = offer_heard is.known.cohort is.known.check turn.accepted is.heard in
      let offer : Offer = turn.accepted.offer in
      let ask : AppAsk = ask_of client in
      let state_is = sym (ap (λ (r : AppReply). r.state) so.replied.is) ∙ is.is in
      let kept : cohort_after client.cohort is.known.cohort ≡ is.known.cohort =
      cohort_after-known client.cohort mirrors (client_of apps client.session ask) ask
      (payload_in so.replied.choice, so.replied.outcome) is.known state_is in
      let replaced : cohort_after client.cohort turn.accepted.cohort ≡ is.known.cohort =
      ap (λ text. cohort_after client.cohort text) (sym named) ∙ kept in
      let asked : ask_after ask is.known offer ≡ ask_of (client_after client turn.accepted) =
      ap (λ text. let next : AppAsk = record ask { version = offer.version; fp = offer.fp; cohort = text } in next) (sym replaced) in
      let next_is : next_ask ask so.reply ≡ Some (ask_of (client_after client turn.accepted)) =
      next-offered ask so.reply is.known offer is.is made ∙ ap (λ (a : AppAsk). Some a) asked in
      let offer_is : offer_in so.reply ≡ Some offer =
      offer_in-known so.reply is.known (check.Offered offer) is.is made in
      let offers : offers_of (so.reply ∷ rest.replies) ≡ offer ∷ offers_of rest.replies =
      ap (λ (o : Option Offer). cons_option o (offers_of rest.replies)) offer_is in
      let P : Option AppAsk → Type 0 =
      λ o. MatchOption o (rest.replies ≡ []) (λ next. IsWalk apps mirrors client.session next rest.replies) in
      let more : sum_of (offer ∷ offers_of rest.replies) ≡ offered_bytes offer + sum_of (offers_of rest.replies) =
      sum_by-cons offered_bytes offer (offers_of rest.replies) in
      let size : offered_bytes offer ≡ (part_of offer).size = offered_bytes-size offer in
      record {
        replies = so.reply ∷ rest.replies;
        walks = (so.replied, subst P (sym next_is) rest.walks);
        last = ap (λ (o : Option AppAsk). option_map_or (λ next. last_ask next rest.replies) o ask) next_is ∙ rest.last;
        count = ap (λ (some : List Offer). length some) offers ∙ omega (arith, rest.count);
        sum = ap sum_of offers ∙ more ∙ ap (λ n. n + sum_of (offers_of rest.replies)) size
            ∙ ap (λ n. (part_of offer).size + n) rest.sum;
      }

  -- the posts of a walk lead from its first ask to its last
  pub served_walk : (client : Installed) (turns : List Turn) (after : Installed) (bytes : List ℕ)
      → IsUtf8 client.app → Follows client turns after → IsReadBack after → heard after.app bytes ≡ Ok None
      → All (IsServedPost apps mirrors) (posts_of client turns ++ post_of after bytes ∷ [])
      → Served apps mirrors client turns after
  served_walk client [] after bytes named led read_as said all =
      let served = All-head (IsServedPost apps mirrors) (post_of after bytes) [] all in
      let still : IsUtf8 after.app = subst (λ (c : Installed). IsUtf8 c.app) (sym led) named in
      subst (λ (c : Installed). Served apps mirrors c [] after) led (ending after bytes still read_as said served)
  served_walk client (turn ∷ turns) after bytes named led read_as said all =
      let others : List Post = posts_of (client_after client turn.accepted) turns ++ post_of after bytes ∷ [] in
      let served = All-head (IsServedPost apps mirrors) (post_of client turn.reply) others all in
      let rest = All-tail (IsServedPost apps mirrors) (post_of client turn.reply) others all in
      stepping client turn turns after named led.0.0 led.0.1.0 served
      (served_walk (client_after client turn.accepted) turns after bytes named led.1 read_as said rest)
