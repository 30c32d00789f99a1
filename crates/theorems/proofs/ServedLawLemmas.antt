-- The laws of a walk, from what it posted.
use Rattle.std.proofs.Common.{◌≡◌, ℕ, ◌≤◌, List, [], ◌∷◌, ◌++◌, length, Ok, refl, sym, ◌∙◌, ap, subst, append_assoc}
use Rattle.std.specs.Prelude.{All}
use Rattle.std.proofs.lemmas.List.{append_cancel_left}
use Rattle.omaha_json.specs.declared.reply.Reply.{Reply}
use Rattle.omaha_json.specs.declared.reply.Offer.{Offer}
use Rattle.omaha_json.specs.ReplyWriting.{reply_bytes}
use Rattle.omaha_json.specs.ReplyReading.{reply_of_bytes}
use Rattle.omaha_json.specs.Soundness.{IsSound}
use Rattle.payload_graph.specs.Chains.{IsAtTarget}
use Rattle.quotes.specs.Sums.{IsLeast}
use Rattle.editions.specs.Editions.{content_of}
use Rattle.catalogue.specs.Histories.{HistoriesAreValid}
use Rattle.theorems.proofs.HistoryLemmas.{IsValid-content}
use Rattle.replies.specs.Clients.{key_of}
use Rattle.theorems.specs.Asks.{IsAskOf, place_at}
use Rattle.theorems.specs.Laws as law
use Rattle.theorems.specs.Walks.{sum_of}
use Rattle.update_client.specs.Clients.{ask_of}
use Rattle.update_client.specs.Walks.{Post, post_of, posts_of}
use Rattle.theorems.specs.ServedLaws.{ServedWalksAreLeast, ServedWalksAreWalks}
use Rattle.theorems.specs.Served.{IsServedPost}
use Rattle.theorems.proofs.ServedLemmas.{served_walk}

module _ (read_back : (reply : Reply) → IsSound reply → reply_of_bytes (reply_bytes reply) ≡ Ok reply)
    (each : law.AsksGetReplies) (received : List ℕ) (ended : Type 0) where
  pub walks_are_served : ServedWalksAreWalks received ended
  walks_are_served apps mirrors client after old posts asked opened before commits walk valid formed named walked all =
      let (bytes, read_as, said, posted, reached, steps, sum) = walked.ends in
      let made : List Post = posts_of client walked.turns ++ post_of after bytes ∷ [] in
      let same : posts ≡ made =
      append_cancel_left old posts made (posted ∙ append_assoc old (posts_of client walked.turns) (post_of after bytes ∷ [])) in
      let so = served_walk read_back each apps mirrors valid formed client walked.turns after bytes named walked.follows read_as said
      (subst (λ (some : List Post). All (IsServedPost apps mirrors) some) same all) in
      record {
        replies = so.replies;
        walks = so.walks;
        last = so.last;
        steps = steps ∙ sym so.count;
        bytes = sum ∙ sym so.sum;
      }

  module _ (are_valid : HistoriesAreValid) (are_short : law.WalksAreShort) (are_least : law.WalksAreLeast) (need_chains : law.WalksNeedChains) where
    pub walks_are_least : ServedWalksAreLeast received ended
    walks_are_least history mirrors asking client after old posts asked opened before commits walk formed named walked all known =
        let so = walks_are_served (content_of history) mirrors client after old posts asked opened before commits walk
        (IsValid-content are_valid history) formed named walked all in
        let asks : IsAskOf (content_of history) client.session asking (ask_of client) = record { known = known; wants = refl } in
        let short = are_short history mirrors client.session asking (ask_of client) so.replies asks so.walks in
        record {
          short = subst (λ n. n ≤ length asking.app.releases) (sym so.steps) short;
          least = λ chain leads.
              let both = are_least history mirrors client.session asking (ask_of client) so.replies chain asks so.walks leads in (
                subst (λ n. IsLeast asking.app (key_of asking) (place_at asking (ask_of client)) n) (sym so.bytes) both.0,
                subst (λ ask. IsAtTarget asking.app (key_of asking) (place_at asking ask)) so.last both.1,
              );
          nowhere = λ none.
              let no_offers = need_chains history mirrors client.session asking (ask_of client) so.replies asks so.walks none in (
                so.steps ∙ ap (λ (some : List Offer). length some) no_offers,
                so.bytes ∙ ap sum_of no_offers,
              );
        }
