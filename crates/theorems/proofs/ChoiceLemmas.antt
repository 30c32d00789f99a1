-- At each place something can be chosen: the first payload of a chain of the least sum, or nothing at the
-- target and if there is no chain.
use Rattle.std.proofs.Common.{◌≡◌, ℕ, zero, suc, ◌+◌, ◌-◌, ◌≤◌, inl, inr, true, List, [], ◌∷◌, length, Option, None, Some, refl, sym, ap, ◌∙◌, subst, arith}
use Rattle.std.proofs.lemmas.Bool.{cases_eq}
use Rattle.std.proofs.lemmas.List.Sums.{sum_by-cons}
use Rattle.catalogue.specs.VersionLaws.{BelowIsIrreflexive, BelowIsTransitive}
use Rattle.values.specs.Ordered.{ascend}
use Rattle.catalogue.specs.Validity.{is_release_below}
use Rattle.catalogue.specs.declared.content.App.{App}
use Rattle.payload_graph.specs.Chains.{IsAtTarget, IsChain, bytes_of, destination_of, sum_of, target_index}
use Rattle.payload_graph.specs.Permitted.{permits}
use Rattle.payload_graph.specs.declared.payload.Payload.{Payload}
use Rattle.payload_graph.specs.declared.payload.TrackKey.{TrackKey}
use Rattle.payload_graph.specs.declared.place.Place.{Place}
use Rattle.payload_graph.specs.declared.place.Place.TheVariants.{At, Outside}
use Rattle.quotes.specs.Quotes.{Begins, IsFirst}
use Rattle.quotes.specs.Sums.{IsPriceOf}
use Rattle.replies.specs.Plans.{IsChoice}
use Rattle.replies.specs.declared.choices.Choice.{Choice}
use Rattle.theorems.proofs.ChainLemmas.{HasNoChain-no_target, IsAtTarget-index, IsLeast-target, index-IsAtTarget}
use Rattle.theorems.proofs.PermittedLemmas.{LeadsNearer-permits, destination-within, target-within}
use Rattle.theorems.proofs.RankLemmas.{IsRank, IsRank-nearer, IsRank-within, IsRank-zero}
use Rattle.theorems.proofs.YieldLemmas.{IsBefore, score, yields-score}
use Rattle.theorems.proofs.BestLemmas.{HasBest, HasPrice, best_of}
use Rattle.theorems.proofs.PickLemmas.{IsPicked-permits, count}

-- what can be chosen at a place
pub record HasChoice (app : App) (key : TrackKey) (place : Place) : Type 0 where
  pub choice : Option Choice
  pub is : IsChoice app key place choice

-- at a place from where each permitted payload leads to a release whose least sum is known
module _ (app : App) (key : TrackKey) (place : Place) (ahead : (payload : Payload) → permits app key place payload ≡ true →
    HasPrice app key (At (destination_of app payload))) where
  -- a chain begins with a payload whose sum is no larger
  record HasWay (bytes : ℕ) : Type 0 where
    payload : Payload
    sum : ℕ
    begins : Begins app key place payload sum
    low : sum ≤ bytes

  HasWay-chain : ¬ (IsAtTarget app key place) → (payloads : List Payload) → IsChain app key place payloads →
      HasWay (sum_of app payloads)
  HasWay-chain away [] leads = absurd (away leads)
  HasWay-chain away (payload ∷ payloads) leads =
      let there = ahead payload leads.0 in
      cases there.price there.is
    where
      cases : (price : Option ℕ) → IsPriceOf app key (At (destination_of app payload)) price →
          HasWay (sum_of app (payload ∷ payloads))
      cases None none = absurd (none payloads leads.1)
      cases (Some rest) least =
          let low = least.least payloads leads.1 in
          let whole = sum_by-cons (bytes_of app) payload payloads in
          record {
            payload = payload;
            sum = bytes_of app payload + rest;
            begins = record { permitted = leads.0; rest = rest; rest_least = least; adds_up = refl };
            low = omega arith;
          }

  -- the best of all payloads is before each that begins a chain
  is_best : (has : HasBest app key place ahead (count app)) (payload : Payload) (sum : ℕ) → Begins app key place payload sum →
      IsBefore has.sum (score app has.payload) sum (score app payload)
  is_best has payload sum begins =
      let picked = IsPicked-permits app key place payload begins.permitted in
      let own = subst (λ (p : Payload). Begins app key place p sum) (sym picked.is) begins in
      subst (λ (p : Payload). IsBefore has.sum (score app has.payload) sum (score app p)) picked.is
      (has.best picked.number sum picked.within own)

  IsFirst-best : ¬ (IsAtTarget app key place) → (has : HasBest app key place ahead (count app)) →
      IsFirst app key place has.payload has.sum
  IsFirst-best away has =
      let rest = has.begins.rest_least in
      record {
        least = record {
          chain = has.payload ∷ rest.chain;
          leads = (has.begins.permitted, rest.leads);
          costs = sum_by-cons (bytes_of app) has.payload rest.chain ∙ ap (λ n. bytes_of app has.payload + n) rest.costs ∙
              has.begins.adds_up;
          least = λ payloads leads.
              let way = HasWay-chain away payloads leads in
              let low = way.low in
              elim (is_best has way.payload way.sum way.begins) [
                | inl less ↦ omega arith
                | inr same ↦ let equal = same.0 in omega arith
              ];
        };
        begins = has.begins;
        first = λ other others. elim (is_best has other has.sum others) [
          | inl less ↦ absurd (omega arith)
          | inr same ↦ yields-score app other has.payload same.1
        ];
      }

  HasChoice-away : ¬ (IsAtTarget app key place) → HasChoice app key place
  HasChoice-away away = elim (best_of app key place ahead (count app)) [
    | inl none ↦
        record {
          choice = None;
          is = inr (λ payloads leads.
              let way = HasWay-chain away payloads leads in
              let picked = IsPicked-permits app key place way.payload way.begins.permitted in
              none picked.number way.sum picked.within
              (subst (λ (p : Payload). Begins app key place p way.sum) (sym picked.is) way.begins));
        }
    | inr has ↦
        record {
          choice = Some (record { payload = has.payload; bytes = bytes_of app has.payload });
          is = record { sum = has.sum; first = IsFirst-best away has; bytes = refl };
        }
  ]

  -- at or away from the target
  HasChoice-place : (target : ℕ) → target_index app key ≡ Some target → HasChoice app key place
  HasChoice-place target is = cases place refl
    where
      cases : (p : Place) → place ≡ p → HasChoice app key place
      cases (At from) same = elim (cases_eq from target) [
        | inl there ↦
            record {
              choice = None;
              is = inl (IsAtTarget-index app key target is ∙ ap (λ (n : ℕ). Some (At n)) (sym there) ∙ ap (λ (p : Place). Some p)
                  (sym same));
            }
        | inr apart ↦ HasChoice-away (λ at. apart
            (index-IsAtTarget app key target from is (at ∙ ap (λ (p : Place). Some p) same)))
      ]
      cases (Outside version) same =
          HasChoice-away (λ at.
          let both : Some (At target) ≡ Some (Outside version) = sym (IsAtTarget-index app key target is) ∙ at ∙ ap
          (λ (p : Place). Some p) same in
          cc)

HasPrice-choice : (app : App) (key : TrackKey) (place : Place) → HasChoice app key place → HasPrice app key place
HasPrice-choice app key place has = cases has.choice has.is
  where
    cases : (choice : Option Choice) → IsChoice app key place choice → HasPrice app key place
    cases None (inl at) = record { price = Some 0; is = IsLeast-target app key place at }
    cases None (inr none) = record { price = None; is = none }
    cases (Some choice) offer = record { price = Some offer.sum; is = offer.first.least }

module _ (irreflexive : BelowIsIrreflexive) (transitive : BelowIsTransitive) (app : App)
    (ascends : ascend is_release_below app.releases ≡ true) (key : TrackKey) where
  module _ (target : ℕ) (target_is : target_index app key ≡ Some target) where
    -- each release has its least sum, by how far it is from the target
    HasPrice-rank : (rank from : ℕ) → IsRank target from rank → HasPrice app key (At from)
    HasPrice-rank zero from ranked =
        let there = IsRank-zero target from ranked in
        record {
          price = Some 0;
          is = IsLeast-target app key (At from)
              (IsAtTarget-index app key target target_is ∙ ap (λ (n : ℕ). Some (At n)) (sym there));
        }
    HasPrice-rank (suc rank) from ranked =
        HasPrice-choice app key (At from)
        (HasChoice-place app key (At from)
        (λ payload permitted.
        HasPrice-rank rank (destination_of app payload)
        (IsRank-nearer target from (destination_of app payload) rank ranked
        (LeadsNearer-permits irreflexive transitive app ascends key target target_is from payload permitted)))
        target target_is)

    HasChoice-target : (place : Place) → HasChoice app key place
    HasChoice-target place =
        HasChoice-place app key place
        (λ payload permitted.
        HasPrice-rank (length app.releases - 1) (destination_of app payload)
        (IsRank-within target (destination_of app payload) (length app.releases)
        (target-within irreflexive transitive app ascends key target target_is place payload permitted)
        (destination-within app key place payload permitted)))
        target target_is

  -- something can be chosen at each place
  pub HasChoice-any : (place : Place) → HasChoice app key place
  HasChoice-any place = cases (target_index app key) refl
    where
      cases : (o : Option ℕ) → target_index app key ≡ o → HasChoice app key place
      cases None is = record { choice = None; is = inr (HasNoChain-no_target app key place is) }
      cases (Some target) is = HasChoice-target target is place
