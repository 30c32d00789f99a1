-- Which budgets a ledger's name carries: the first one, and the most that it may come to. There are four places for
-- mirrors, each with a ledger of its own; one without a mirror has the first budget 0.
use Rattle.std.specs.Prelude.{◌≡◌, ◌&&◌, ℕ, ◌<◌, ◌≤◌, Bool, true, not, if◌then◌else◌, List, [], ◌∷◌, length, map, nat_le, slice_index, take}
use Rattle.std.specs.List.{list_all}
use Rattle.std.specs.declared.sync.ledger.Blank.{Blank}
use Rattle.catalogue.specs.Mirrors.{max_budget}
use Rattle.catalogue.specs.declared.mirror.Mirror.{Mirror}

-- the budget of the mirror at an index, 0 if there is none
abbrev pub budget_at : List Mirror → ℕ → ℕ
budget_at mirrors index = slice_index (map (λ (mirror : Mirror). mirror.budget) mirrors) index

-- each mirror's budget is at most the maximum
abbrev pub are_bounded : List Mirror → Bool
are_bounded mirrors = list_all (λ (mirror : Mirror). nat_le mirror.budget max_budget) mirrors

-- the most that the budget of the mirror at an index may come to: the maximum if it may be raised, else the first one
abbrev pub max_at : Bool → List Mirror → ℕ → ℕ
max_at rises mirrors index = if rises then max_budget else budget_at mirrors index

-- a blank is of a ledger's name, which has a part for each worker and carries the first budget of the mirror at an
-- index, and no less as the most that it may come to; and a second blank is of the ledger of its raises, which has one part
pub record IsNamed (blank raises : Blank) (name parts budget most raising workers : ℕ) (mirrors : List Mirror) (index : ℕ) : Type 0 where
  pub same_name : blank.name ≡ name
  pub same_parts : blank.parts ≡ parts
  pub same_raising : raises.name ≡ raising
  pub one_raises : raises.parts ≡ 1
  pub part_each : parts ≡ workers
  pub carried : budget ≡ budget_at mirrors index
  pub reached : budget ≤ most

-- one to four mirrors have these budgets, and a place without a mirror has the budget 0
pub record AreGiven (mirrors : List Mirror) (first second third fourth : ℕ) : Type 0 where
  pub some : 0 < length mirrors
  pub few : length mirrors ≤ 4
  pub at_first : budget_at mirrors 0 ≡ first
  pub at_second : budget_at mirrors 1 ≡ second
  pub at_third : budget_at mirrors 2 ≡ third
  pub at_fourth : budget_at mirrors 3 ≡ fourth

-- four budgets may be raised to the maximum
abbrev pub are_rising : ℕ → ℕ → ℕ → ℕ → Bool
are_rising first second third fourth =
    nat_le max_budget first && nat_le max_budget second && nat_le max_budget third && nat_le max_budget fourth

-- no budget may be raised: the most that each of the four may come to is the first one
pub record AreFixed (mirrors : List Mirror) (first second third fourth : ℕ) : Type 0 where
  pub at_first : first ≤ budget_at mirrors 0
  pub at_second : second ≤ budget_at mirrors 1
  pub at_third : third ≤ budget_at mirrors 2
  pub at_fourth : fourth ≤ budget_at mirrors 3

-- all budgets may be raised, or none
pub record AreTops (rises : Bool) (mirrors : List Mirror) (first second third fourth : ℕ) : Type 0 where
  pub rising : rises ≡ true → are_rising first second third fourth ≡ true
  pub fixed : not rises ≡ true → AreFixed mirrors first second third fourth

-- rule: Total of a mirror
-- the totals of one to four mirrors, each the sum of its shares
abbrev pub totals_of : List Mirror → ℕ → ℕ → ℕ → ℕ → List ℕ
totals_of mirrors first second third fourth = take (length mirrors) (first ∷ second ∷ third ∷ fourth ∷ [])
