-- What mirrors are asked to grant for a plan; this project's profile.
use Rattle.std.specs.Prelude.{◌≡◌, ⊤, ℕ, List, [], ◌∷◌, ◌++◌, flat_map, Option, None, Some}
use Rattle.std.specs.List.{zip}
use Rattle.catalogue.specs.declared.mirror.Mirror.{Mirror}
use Rattle.mirror_ledger.specs.Asks.{Ask}
use Rattle.mirror_ledger.specs.Order.{IsFirstWithRoom}
use Rattle.replies.specs.Replies.{AreOutcomes}
use Rattle.replies.specs.declared.choices.Choice.{Choice}

-- the ask for one app, if a payload was chosen for it: the payload's bytes, and the outcome
abbrev pub asks_for : Option Choice → Option ℕ → List Ask
asks_for None outcome = []
asks_for (Some choice) outcome = (choice.bytes, outcome) ∷ []

-- the asks for a plan: one for each chosen payload, in order
abbrev pub asks_of : List (Option Choice) → List (Option ℕ) → List Ask
asks_of plan outcomes = flat_map (λ decided. asks_for decided.0 decided.1) (zip plan outcomes)

-- rule: Asks of a plan
-- the mirrors were asked for each chosen payload once, in order, with its bytes, and for nothing else;
-- the outcomes are what they returned, and none if nothing was chosen
pub record AsksFor (mirrors : List Mirror) (plan : List (Option Choice)) (outcomes : List (Option ℕ))
    (before after : List Ask) : Type 0 where
  pub decided : AreOutcomes mirrors plan outcomes
  pub asked : after ≡ before ++ asks_of plan outcomes

-- the mirrors were asked so for a first part of the plan
pub record AsksFirst (mirrors : List Mirror) (plan : List (Option Choice)) (before after : List Ask) : Type 0 where
  pub first : List (Option Choice)
  pub rest : List (Option Choice)
  pub outcomes : List (Option ℕ)
  pub parts : plan ≡ first ++ rest
  pub asked : AsksFor mirrors first outcomes before after

-- each ask was granted by the first mirror with room, beside some asks before and those of the list
-- before it
abbrev pub AreGranted : List Mirror → List Ask → List Ask → Type 0
AreGranted mirrors before [] = ⊤
AreGranted mirrors before (ask ∷ asks) =
    IsFirstWithRoom mirrors before ask.0 ask.1 × AreGranted mirrors (before ++ ask ∷ []) asks

-- the asks that were added were granted so
abbrev pub GrantsFirst : List Mirror → List Ask → List Ask → Type 0
GrantsFirst mirrors before after = (asks : List Ask) × (after ≡ before ++ asks) × AreGranted mirrors before asks
