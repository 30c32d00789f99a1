-- The releases from which the full package of a release is permitted.
use Rattle.std.proofs.Common.{◌≡◌, ℕ, zero, suc, ◌+◌, ◌-◌, ◌<◌, ◌≤◌, inl, inr, Bool, true, false, cond, ltb, List, [], length, get_or, take, drop, refl, sym, ap, ◌∙◌, arith}
use Rattle.std.specs.List.{AllWithin, filter}
use Rattle.std.specs.List.Sorted.{IsNonDecreasing}
use Rattle.std.proofs.lemmas.Bool.{cases_lt, le-ltb, lt-ltb}
use Rattle.std.proofs.lemmas.List.{get_or-take, length-take-le, take-take}
use Rattle.std.proofs.lemmas.List.Sorted.{IsNonDecreasingBy-from_default}
use Rattle.payload_graph.proofs.FlatLemmas.{filter-same}
use Rattle.payload_graph.proofs.RangeLemmas.{between-range, filter-between}
use Rattle.payload_graph.proofs.ReachLemmas.{reach_of-bounds, reach_of-more}
use Rattle.payload_graph.specs.Net.{between}
use Rattle.payload_graph.specs.Soundness.{AreNumbered, AreReaches, no_door, origins_below, reach_of}
use Rattle.payload_graph.specs.declared.door.Door.{Door}

module _ (target : ℕ) (doors : List Door) (within : target < length doors) where
  -- a window ends no later than the next one
  reach_of-next : (from : ℕ) → from < target → reach_of target doors from ≤ reach_of target doors (from + 1)
  reach_of-next from below =
      let stone = (get_or doors (from + 1) no_door).stone in
      cases stone (reach_of-more target doors from (reach_of target doors (from + 1)) stone below within refl refl)
    where
      cases :
          (b : Bool) → cond b (from + 2) (reach_of target doors (from + 1)) ≡ reach_of target doors from →
          reach_of target doors from ≤ reach_of target doors (from + 1)
      cases true is = let bounds = reach_of-bounds target doors (from + 1) (omega arith) within in omega arith
      cases false is = omega arith

  reach_of-later : (from n : ℕ) → from + n ≤ target → reach_of target doors from ≤ reach_of target doors (from + n)
  reach_of-later from zero fits =
      let same : from + 0 ≡ from = omega arith in
      omega (arith, ap (reach_of target doors) same)
  reach_of-later from (suc n) fits =
      let next : from + n + 1 ≡ from + suc n = omega arith in
      let later = reach_of-later from n (omega arith) in
      let last = reach_of-next (from + n) (omega arith) in
      omega (arith, ap (reach_of target doors) next)

  pub IsNonDecreasing-reaches : (reaches : List ℕ) → AreReaches target doors reaches → IsNonDecreasing reaches
  IsNonDecreasing-reaches reaches are =
      IsNonDecreasingBy-from_default (λ (reach : ℕ). reach) reaches 0 (λ i j ordered fits.
      let sized = are.sized in
      let first = are.right i (omega arith) in
      let second = are.right j (omega arith) in
      let apart : i + (j - i) ≡ j = omega arith in
      omega (arith, ap (reach_of target doors) apart, reach_of-later i (j - i) (omega arith)))

  -- where the windows of lower releases begin to reach a release
  pub record IsParted (reaches : List ℕ) (to start : ℕ) : Type 0 where
    pub bound : start ≤ length reaches
    pub before : AllWithin (λ reach. reach ≤ to) reaches 0 start
    pub behind : AllWithin (λ reach. to < reach) reaches start (length reaches)

  module _ (numbered : AreNumbered doors) (reaches : List ℕ) (are : AreReaches target doors reaches) (to start : ℕ) (low : to ≤ target) (parted : IsParted reaches to start) where
    pub start_low : start ≤ to
    start_low = elim (cases_lt to start) [
      | inl less ↦
          let early = parted.before to 0 (omega arith) less in
          let right = are.right to low in
          let bounds = reach_of-bounds target doors to low within in
          absurd (omega arith)
      | inr more ↦ more
    ]

    -- the window of the release reaches the other one
    abbrev reaches_it : Door → Bool
    reaches_it origin = ltb to (reach_of target doors origin.to)

    at : (k : ℕ) → k < to → reaches_it (get_or (take to doors) k no_door) ≡ ltb to (reach_of target doors k)
    at k less =
        ap reaches_it (get_or-take to doors k no_door less)
        ∙ ap (λ n. ltb to (reach_of target doors n)) (numbered k (omega arith))

    pub origins_below-parted : take (to - start) (drop start doors) ≡ origins_below target doors to
    origins_below-parted =
        let size = length-take-le to doors (omega arith) in
        let sized = are.sized in
        between-range doors start to start_low
        ∙ sym (ap (drop start) (take-take to to doors (omega arith)))
        ∙ sym (filter-same true (between start to (take to doors)))
        ∙ sym (filter-between reaches_it (λ (origin : Door). true) no_door (take to doors) start to (record {
          below = λ k there less.
              let early = parted.before k 0 (omega arith) less in
              let right = are.right k (omega arith) in
              at k (omega arith) ∙ le-ltb to (reach_of target doors k) (omega arith);
          above = λ k there more. absurd (omega arith);
          inside = λ k there less more.
              let late = parted.behind k 0 less (omega arith) in
              let right = are.right k (omega arith) in
              at k (omega arith) ∙ lt-ltb to (reach_of target doors k) (omega arith);
        }))
        ∙ sym (ap (λ b. cond b [] (filter reaches_it (take to doors))) (le-ltb target to low))
