-- Tills that are opened for work and closed after it; this project's profile.
use Rattle.std.specs.Prelude.{◌≡◌, ℕ, ◌+◌, ◌<◌, ◌≤◌, All, Bool, true, List, [], length, map, slice_index, sum_by, Option, None, Some, Result, Ok, Err}
use Rattle.std.specs.List.{AllZip}
use Rattle.catalogue.specs.declared.mirror.Mirror.{Mirror}
use Rattle.mirror_ledger.specs.Asks.{Ask, granted_at}
use Rattle.mirror_ledger.specs.Named.{budget_at, totals_of}

-- rule: Tills of workers
-- tills that have asked for nothing yet, all of the same mirrors; one that has no other beside it is alone, if no budget
-- may be raised
pub record AreOpened {T : Type 0} (mirrors_of : T → List Mirror) (asks_of : T → List Ask) (Alone : T → Type 0)
    (fixed : Bool) (mirrors : List Mirror) (tills : List T) : Type 0 where
  pub mirrored : All (λ till. mirrors_of till ≡ mirrors) tills
  pub unused : All (λ till. asks_of till ≡ []) tills
  pub alone : fixed ≡ true → length tills ≡ 1 → All Alone tills

-- what the mirror at an index granted, by the asks of each worker
abbrev pub granted_by : List (List Ask) → ℕ → ℕ
granted_by workers index = sum_by (λ (asks : List Ask). granted_at index asks) workers

-- each mirror's total: what it granted to all workers, and no more than its budget, of mirrors with their budgets at the
-- end
pub record AreTotalsOf (mirrors : List Mirror) (workers : List (List Ask)) (totals : List ℕ) : Type 0 where
  pub sums : totals ≡ totals_of mirrors (granted_by workers 0) (granted_by workers 1) (granted_by workers 2) (granted_by workers 3)
  pub within : (index : ℕ) → index < length mirrors → slice_index totals index ≤ budget_at mirrors index

-- no mirror has room for the bytes beside its total: its first budget is below both together
abbrev pub AreFull : List Mirror → List ℕ → ℕ → Type 0
AreFull mirrors totals bytes = (index : ℕ) → index < length mirrors → budget_at mirrors index < slice_index totals index + bytes

-- rule: Rejected asks
-- each ask of a worker that was rejected found no room, by the first budgets of the mirrors and their totals at the end
abbrev pub HadNoRoom : List Mirror → List (List Ask) → List ℕ → Type 0
HadNoRoom mirrors workers totals = All (All (λ (ask : Ask). ask.1 ≡ None → AreFull mirrors totals ask.0)) workers

-- a till of these mirrors that has asked for nothing yet, and has no other beside it and no budget that may be raised,
-- if it is single
pub record IsFresh {T : Type 0} (mirrors_of : T → List Mirror) (asks_of : T → List Ask) (Alone : T → Type 0)
    (single : Bool) (mirrors : List Mirror) (till : T) : Type 0 where
  pub mirrored : mirrors_of till ≡ mirrors
  pub unused : asks_of till ≡ []
  pub alone : single ≡ true → Alone till

-- rule: Jobs with tills
-- a worker's job came to this end, with what it asked its till for; or it did not begin, asked for nothing and is
-- given back
abbrev pub WorksAs : {J E : Type 0} → (J → List Ask → E → Type 0) → J → List Ask → Result E J → Type 0
WorksAs comes_to job asks (Ok end) = comes_to job asks end
WorksAs comes_to job asks (Err back) = (back ≡ job) × (asks ≡ [])

-- what became of each job, in order, and the asks of each
pub record HaveWorked {J E : Type 0} (comes_to : J → List Ask → E → Type 0) (jobs : List J) (workers : List (List Ask))
    (ends : List (Result E J)) : Type 0 where
  pub worked : List (List Ask × Result E J)
  pub each : AllZip (λ job done. WorksAs comes_to job done.0 done.1) jobs worked
  pub asked : workers ≡ map (λ (done : List Ask × Result E J). done.0) worked
  pub ended : ends ≡ map (λ (done : List Ask × Result E J). done.1) worked

-- the own job came to this end, from the mirrors with their budgets before it to those after it; or it did not begin, and
-- no budget was raised
abbrev pub HasEnded : {E : Type 0} → (List Mirror → List Mirror → E → Type 0) → List Mirror → List Mirror → Option E → Type 0
HasEnded comes_to before after (Some end) = comes_to before after end
HasEnded comes_to before after None = after ≡ before
