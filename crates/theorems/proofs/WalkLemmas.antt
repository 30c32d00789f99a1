-- A client can walk, and its walks are short: after each offer it is nearer its target.
use Rattle.std.proofs.Common.{◌≡◌, ℕ, zero, suc, ◌-◌, ◌≤◌, ◌⊎◌, inl, inr, true, List, [], ◌∷◌, length, Option, Some, refl, sym, ap, ◌∙◌, subst, arith}
use Rattle.std.specs.Option.{MatchOption}
use Rattle.catalogue.specs.VersionLaws.{BelowIsIrreflexive, BelowIsTransitive}
use Rattle.catalogue.specs.Validity.{IsValid}
use Rattle.catalogue.specs.declared.content.App.{App}
use Rattle.catalogue.specs.declared.mirror.Mirror.{Mirror}
use Rattle.cohorts.specs.Laws.{ParsedIsPrinted, PrintedIsParsed}
use Rattle.omaha_json.specs.declared.reply.AppReply.{AppReply}
use Rattle.omaha_json.specs.declared.request.AppAsk.{AppAsk}
use Rattle.payload_graph.specs.Chains.{destination_of, target_index}
use Rattle.payload_graph.specs.Permitted.{permits}
use Rattle.payload_graph.specs.declared.place.Place.{Place}
use Rattle.payload_graph.specs.declared.place.Place.TheVariants.{At}
use Rattle.replies.specs.Clients.{Client, key_of}
use Rattle.theorems.specs.Asks.{IsAskOf, IsReplyTo, place_at}
use Rattle.theorems.specs.Walks.{IsWalk, offers_of}
use Rattle.theorems.proofs.ChainLemmas.{HasGoal-chain, IsAtTarget-index}
use Rattle.theorems.proofs.PermittedLemmas.{LeadsNearer-permits, destination-within, target-within}
use Rattle.theorems.proofs.RankLemmas.{IsRank, IsRank-nearer, IsRank-within, IsRank-zero}
use Rattle.theorems.proofs.ReplyLemmas.{IsValidApp-client}
use Rattle.theorems.proofs.StepLemmas.{HasReply, HasReply-any, Moves, Stays, Stays-or-Moves}
use Rattle.theorems.proofs.FollowLemmas.{last-reply, offers-last, offers-more, rest-walk}

module _ (irreflexive : BelowIsIrreflexive) (transitive : BelowIsTransitive) (printed_is : PrintedIsParsed)
    (parsed_is : ParsedIsPrinted) (apps : List App) (valid : IsValid apps) (mirrors : List Mirror) (session : List ℕ)
    (client : Client) where
  abbrev Walks : AppAsk → List AppReply → Type 0
  Walks ask replies = IsWalk apps mirrors session ask replies

  abbrev Asks : AppAsk → Type 0
  Asks ask = IsAskOf apps session client ask

  abbrev goes : (ask : AppAsk) (reply : AppReply) → Asks ask → IsReplyTo apps mirrors session ask reply →
      Stays client ask reply ⊎ Moves apps session client ask reply
  goes ask reply asks replied =
      Stays-or-Moves irreflexive transitive printed_is parsed_is apps valid mirrors session client ask reply asks replied

  -- the rank falls with each offer
  nearer :
      (target : ℕ) → target_index client.app (key_of client) ≡ Some target →
      (ask : AppAsk) (reply : AppReply) (from rank : ℕ) → Asks ask → place_at client ask ≡ At from →
      IsRank target from (suc rank) →
      (moves : Moves apps session client ask reply) → IsRank target (destination_of client.app moves.step.way.payload) rank
  nearer target target_is ask reply from rank asks placed ranked moves =
      let app_valid = IsValidApp-client irreflexive transitive apps valid mirrors session client ask asks in
      let payload = moves.step.way.payload in
      let permitted = subst (λ (place : Place). permits client.app (key_of client) place payload ≡ true) placed
      moves.step.way.first.begins.permitted in
      IsRank-nearer target from (destination_of client.app payload) rank ranked
      (LeadsNearer-permits irreflexive transitive client.app app_valid.releases_ascend (key_of client) target target_is from
      payload permitted)

  -- there is no offer at the target
  ends_there :
      (target : ℕ) → target_index client.app (key_of client) ≡ Some target →
      (ask : AppAsk) (reply : AppReply) (from : ℕ) → place_at client ask ≡ At from → IsRank target from 0 →
      ¬ (Moves apps session client ask reply)
  ends_there target target_is ask reply from placed ranked moves =
      let there = IsRank-zero target from ranked in
      moves.step.way.away
      (IsAtTarget-index client.app (key_of client) target target_is ∙ ap (λ (n : ℕ). Some (At n)) (sym there) ∙ ap
      (λ (p : Place). Some p) (sym placed))

  -- where a client is after its first offer
  record HasStart (ask : AppAsk) (reply : AppReply) (moves : Moves apps session client ask reply) : Type 0 where
    target : ℕ
    target_is : target_index client.app (key_of client) ≡ Some target
    some : 1 ≤ length client.app.releases
    ranked : IsRank target (destination_of client.app moves.step.way.payload) (length client.app.releases - 1)

  HasStart-moves : (ask : AppAsk) (reply : AppReply) → Asks ask → (moves : Moves apps session client ask reply) →
      HasStart ask reply moves
  HasStart-moves ask reply asks moves =
      let app_valid = IsValidApp-client irreflexive transitive apps valid mirrors session client ask asks in
      let way = moves.step.way in
      let goal = HasGoal-chain client.app (key_of client) (place_at client ask) way.first.least.chain way.first.least.leads in
      let permitted = way.first.begins.permitted in
      let target_in = target-within irreflexive transitive client.app app_valid.releases_ascend (key_of client) goal.target
      goal.is (place_at client ask) way.payload permitted in
      let there_in = destination-within client.app (key_of client) (place_at client ask) way.payload permitted in
      record {
        target = goal.target;
        target_is = goal.is;
        some = omega arith;
        ranked = IsRank-within goal.target (destination_of client.app way.payload) (length client.app.releases) target_in
            there_in;
      }

  -- a walk from a release makes at most as many offers as its rank
  short-from :
      (target : ℕ) → target_index client.app (key_of client) ≡ Some target →
      (replies : List AppReply) (ask : AppAsk) (from rank : ℕ) → Asks ask → place_at client ask ≡ At from →
      IsRank target from rank →
      Walks ask replies → length (offers_of replies) ≤ rank
  short-from target target_is [] ask from rank asks placed ranked walk = absurd walk
  short-from target target_is (reply ∷ replies) ask from zero asks placed ranked walk = elim (goes ask reply asks walk.0) [
    | inl stays ↦
        let none = ap length (offers-last apps mirrors session client ask reply replies stays
        (last-reply apps mirrors session client ask reply replies stays walk)) in
        omega arith
    | inr moves ↦ absurd (ends_there target target_is ask reply from placed ranked moves)
  ]
  short-from target target_is (reply ∷ replies) ask from (suc rank) asks placed ranked walk = elim (goes ask reply asks walk.0) [
    | inl stays ↦
        let none = ap length (offers-last apps mirrors session client ask reply replies stays
        (last-reply apps mirrors session client ask reply replies stays walk)) in
        omega arith
    | inr moves ↦
        let more = ap length (offers-more apps mirrors session client ask reply replies moves) in
        let others =
        short-from target target_is replies moves.next (destination_of client.app moves.step.way.payload) rank moves.step.asks
        moves.step.moved
        (nearer target target_is ask reply from rank asks placed ranked moves)
        (rest-walk apps mirrors session client ask reply replies moves walk) in
        omega arith
  ]

  -- a walk makes at most as many offers as the app has releases
  pub walk-short : (replies : List AppReply) (ask : AppAsk) → Asks ask → Walks ask replies →
      length (offers_of replies) ≤ length client.app.releases
  walk-short [] ask asks walk = absurd walk
  walk-short (reply ∷ replies) ask asks walk = elim (goes ask reply asks walk.0) [
    | inl stays ↦
        let none = ap length (offers-last apps mirrors session client ask reply replies stays
        (last-reply apps mirrors session client ask reply replies stays walk)) in
        omega arith
    | inr moves ↦
        let start = HasStart-moves ask reply asks moves in
        let some = start.some in
        let more = ap length (offers-more apps mirrors session client ask reply replies moves) in
        let others =
        short-from start.target start.target_is replies moves.next (destination_of client.app moves.step.way.payload)
        (length client.app.releases - 1) moves.step.asks moves.step.moved
        start.ranked (rest-walk apps mirrors session client ask reply replies moves walk) in
        omega arith
  ]

  -- a walk from an ask
  abbrev HasWalk : AppAsk → Type 0
  HasWalk ask = (replies : List AppReply) × Walks ask replies

  walk-last : (ask : AppAsk) (reply : AppReply) → IsReplyTo apps mirrors session ask reply → Stays client ask reply → HasWalk ask
  walk-last ask reply replied stays =
      let none : List AppReply = [] in
      let empty : none ≡ none = refl in (
        reply ∷ none,
        (replied, subst (λ (o : Option AppAsk). MatchOption o (none ≡ none) (λ next. Walks next none)) (sym stays.next_is) empty),
      )

  walk-more : (ask : AppAsk) (reply : AppReply) → IsReplyTo apps mirrors session ask reply →
      (moves : Moves apps session client ask reply) → HasWalk moves.next → HasWalk ask
  walk-more ask reply replied moves others = (
    reply ∷ others.0,
    (
      replied,
      subst (λ (o : Option AppAsk). MatchOption o (others.0 ≡ []) (λ next. Walks next others.0)) (sym moves.next_is)
          others.1,
    ),
  )

  module _ (some : 1 ≤ length mirrors) where
    abbrev answered : (ask : AppAsk) → Asks ask → HasReply apps mirrors session ask
    answered ask asks = HasReply-any irreflexive transitive printed_is parsed_is apps valid mirrors session client some ask asks

    exists-from :
        (target : ℕ) → target_index client.app (key_of client) ≡ Some target →
        (rank : ℕ) (ask : AppAsk) (from : ℕ) → Asks ask → place_at client ask ≡ At from → IsRank target from rank → HasWalk ask
    exists-from target target_is zero ask from asks placed ranked =
        let has = answered ask asks in
        elim (goes ask has.reply asks has.is) [
          | inl stays ↦ walk-last ask has.reply has.is stays
          | inr moves ↦ absurd (ends_there target target_is ask has.reply from placed ranked moves)
        ]
    exists-from target target_is (suc rank) ask from asks placed ranked =
        let has = answered ask asks in
        elim (goes ask has.reply asks has.is) [
          | inl stays ↦ walk-last ask has.reply has.is stays
          | inr moves ↦
              walk-more ask has.reply has.is moves
              (exists-from target target_is rank moves.next (destination_of client.app moves.step.way.payload) moves.step.asks
              moves.step.moved
              (nearer target target_is ask has.reply from rank asks placed ranked moves))
        ]

    pub walk-exists : (ask : AppAsk) → Asks ask → HasWalk ask
    walk-exists ask asks =
        let has = answered ask asks in
        elim (goes ask has.reply asks has.is) [
          | inl stays ↦ walk-last ask has.reply has.is stays
          | inr moves ↦
              let start = HasStart-moves ask has.reply asks moves in
              walk-more ask has.reply has.is moves
              (exists-from start.target start.target_is (length client.app.releases - 1) moves.next
              (destination_of client.app moves.step.way.payload) moves.step.asks moves.step.moved start.ranked)
        ]
