-- Chains on a track and their least sums.
use Rattle.std.proofs.Common.{◌≡◌, ℕ, List, [], ◌∷◌, Option, None, Some, refl, sym, ap, ◌∙◌, arith}
use Rattle.std.specs.Option.{option_map}
use Rattle.catalogue.specs.declared.content.App.{App}
use Rattle.payload_graph.specs.Chains.{IsAtTarget, IsChain, destination_of, target_index}
use Rattle.payload_graph.specs.declared.payload.Payload.{Payload}
use Rattle.payload_graph.specs.declared.payload.TrackKey.{TrackKey}
use Rattle.payload_graph.specs.declared.place.Place.{Place}
use Rattle.payload_graph.specs.declared.place.Place.TheVariants.{At}
use Rattle.quotes.specs.Sums.{HasNoChain, IsLeast}

module _ (app : App) (key : TrackKey) where
  -- the target of a track
  pub record HasGoal : Type 0 where
    pub target : ℕ
    pub is : target_index app key ≡ Some target

  -- a chain ends at a target
  pub HasGoal-chain : (place : Place) (payloads : List Payload) → IsChain app key place payloads → HasGoal
  HasGoal-chain place [] leads = cases (target_index app key) refl leads
    where
      cases :
          (o : Option ℕ) → target_index app key ≡ o → option_map (λ (r : ℕ). At r) o ≡ Some place → HasGoal
      cases None is leads = cc
      cases (Some target) is leads = record { target = target; is = is }
  HasGoal-chain place (payload ∷ payloads) leads = HasGoal-chain (At (destination_of app payload)) payloads leads.1

  -- so without a target there is no chain
  pub HasNoChain-no_target : (place : Place) → target_index app key ≡ None → HasNoChain app key place
  HasNoChain-no_target place none payloads leads =
      let goal = HasGoal-chain place payloads leads in
      let clash : None ≡ Some goal.target = sym none ∙ goal.is in
      cc

  -- the index of the target, and the place there
  pub IsAtTarget-index : (target : ℕ) → target_index app key ≡ Some target → IsAtTarget app key (At target)
  IsAtTarget-index target is = ap (λ (o : Option ℕ). option_map (λ (r : ℕ). At r) o) is

  pub index-IsAtTarget : (target from : ℕ) → target_index app key ≡ Some target → IsAtTarget app key (At from) → from ≡ target
  index-IsAtTarget target from is at =
      let both : Some (At target) ≡ Some (At from) = sym (IsAtTarget-index target is) ∙ at in
      cc

  -- at the target the least sum is 0
  pub IsLeast-target : (place : Place) → IsAtTarget app key place → IsLeast app key place 0
  IsLeast-target place at = record { chain = []; leads = at; costs = refl; least = λ payloads leads. omega arith }

  -- a place has one least sum
  pub IsLeast-one : (place : Place) (sum other : ℕ) → IsLeast app key place sum → IsLeast app key place other → sum ≡ other
  IsLeast-one place sum other least least_other =
      let low = least.least least_other.chain least_other.leads in
      let high = least_other.least least.chain least.leads in
      let one = least.costs in
      let two = least_other.costs in
      omega arith
