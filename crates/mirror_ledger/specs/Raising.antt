-- What a raise of a budget comes to; this project's profile.
use Rattle.std.specs.Prelude.{◌≡◌, ℕ, zero, suc, ◌<◌, ◌≤◌, Bool, true, IsSome, List, [], ◌∷◌, length, Option, None, Some, Result, Ok, Err}
use Rattle.std.specs.List.{list_all, position}
use Rattle.std.specs.Str.{bytes_eq}
use Rattle.catalogue.specs.Mirrors.{is_mirror, max_budget}
use Rattle.catalogue.specs.declared.mirror.Mirror.{Mirror}
use Rattle.values.specs.Lists.{IsOnce}
use Rattle.mirror_ledger.specs.Named.{budget_at}
use Rattle.mirror_ledger.specs.declared.raise_error.RaiseError.{RaiseError}
use Rattle.mirror_ledger.specs.declared.raise_error.RaiseError.TheVariants as fault

-- the mirror has the name
abbrev pub has_name : List ℕ → Mirror → Bool
has_name name mirror = bytes_eq name mirror.name

-- one to four valid mirrors, no two of one name
pub record AreNamed (mirrors : List Mirror) : Type 0 where
  pub some : 1 ≤ length mirrors
  pub few : length mirrors ≤ 4
  pub formed : list_all is_mirror mirrors ≡ true
  pub once : IsOnce has_name mirrors

-- the index of the mirror of a name
abbrev pub index_of : List Mirror → List ℕ → Option ℕ
index_of mirrors name = position (has_name name) mirrors

-- the mirrors, with another budget of the one at an index
abbrev pub raise_at : List Mirror → ℕ → ℕ → List Mirror
raise_at [] index budget = []
raise_at (mirror ∷ mirrors) zero budget = record { name = mirror.name; codebase = mirror.codebase; budget = budget } ∷ mirrors
raise_at (mirror ∷ mirrors) (suc index) budget = mirror ∷ raise_at mirrors index budget

-- the mirror of a name is the one at an index
abbrev pub IsAt : List Mirror → List ℕ → ℕ → Type 0
IsAt mirrors name index = index_of mirrors name ≡ Some index

-- rule: Raise by a name
-- what raising the budget of the mirror of a name comes to, from the mirrors with their budgets before it to those after
-- it: that mirror alone has another budget, just the number, which is no less; or all is as before, and it is the first
-- fault that there is, `Lower` with the budget as it is
abbrev pub RaisesTo : List Mirror → List Mirror → List ℕ → ℕ → Result (Unit {0}) RaiseError → Type 0
RaisesTo old new name budget (Ok done) =
    (index : ℕ) × IsAt old name index × (budget ≤ max_budget) × (budget_at old index ≤ budget) × (new ≡ raise_at old index budget)
RaisesTo old new name budget (Err fault.UnknownMirror) = (index_of old name ≡ None) × (new ≡ old)
RaisesTo old new name budget (Err fault.TooHigh) = IsSome (index_of old name) × (max_budget < budget) × (new ≡ old)
RaisesTo old new name budget (Err (fault.Lower now)) =
    (index : ℕ) × IsAt old name index × (budget ≤ max_budget) × (budget < now) × (now ≡ budget_at old index) × (new ≡ old)
