-- The releases that a client outside may be led to are within a range.
use Rattle.std.proofs.Common.{◌≡◌, ℕ, zero, suc, ◌<◌, ◌≤◌, ◌&&◌, ◌||◌, inl, inr, not, Bool, true, false, List, [], ◌∷◌, length, get_or, take, Option, None, Some, refl, sym, ap, ◌∙◌, arith}
use Rattle.std.specs.List.{list_any, AllWithin, slice_get}
use Rattle.std.specs.List.Sorted.{IsPartitionedBy}
use Rattle.std.specs.Option.{option_and_then}
use Rattle.std.proofs.lemmas.Bool.{cases_eq, cases_lt, false_from_ne_true, false≢true}
use Rattle.std.proofs.lemmas.List.{get_or_default}
use Rattle.std.proofs.lemmas.Option.{get_or_from_slice_get}
use Rattle.catalogue.specs.VersionLaws.{BelowIsIrreflexive, BelowIsTransitive}
use Rattle.catalogue.specs.Versions.{is_below}
use Rattle.values.specs.Ordered.{ascend}
use Rattle.catalogue.specs.Validity.{is_release_below}
use Rattle.catalogue.specs.declared.content.Cohort.{Cohort}
use Rattle.catalogue.specs.declared.content.Release.{Release}
use Rattle.payload_graph.specs.Permitted.{is_offered_at, jumps_stone, permits_full, rolls_back}
use Rattle.payload_graph.specs.declared.payload.TrackKey.{TrackKey}
use Rattle.price_cert.specs.declared.row.Row.{Row}
use Rattle.quotes.proofs.OutsideLemmas.{HasLooked, permits_full-before, rising}
use Rattle.quotes.specs.Outside.{IsBest, IsWindow, is_blocked, is_stone_above, leads_to, may_fall, sum_if, sum_into}
use Rattle.quotes.specs.declared.outside.Best.{Best}

pub not-true : (b : Bool) → not b ≡ true → b ≡ false
not-true true is = sym is
not-true false is = refl

pub not-false : (b : Bool) → not b ≡ false → b ≡ true
not-false true is = refl
not-false false is = sym is

-- the releases that aren't above a version come first
pub IsPartitionedBy-not_above :
    (transitive : BelowIsTransitive) (version : List ℕ) (releases : List Release) → ascend is_release_below releases ≡ true →
    IsPartitionedBy (λ (release : Release). not (is_below version release.version)) releases
IsPartitionedBy-not_above transitive version releases rises i j d low within is = elim (cases_eq i j) [
  | inl same ↦ ap (λ n. not (is_below version (get_or releases n d).version)) same ∙ is
  | inr other ↦
      let up = rising releases i j d rises (omega arith) within in
      ap not (false_from_ne_true _ (λ above.
      false≢true (sym (ap not (transitive version (get_or releases i d).version (get_or releases j d).version above up)) ∙ is)))
]

not_up : (offered low jumps back from_above down : Bool) → (back && from_above) ≡ false → (offered && ((false && (low && jumps)) || (back && (from_above && down)))) ≡ false
not_up false low jumps back from_above down none = refl
not_up true low jumps false from_above down none = refl
not_up true low jumps true false down none = refl
not_up true low jumps true true down none = absurd (false≢true (sym none))

too_high : (offered up jumps back from_above down : Bool) → (back && from_above) ≡ false → (offered && ((up && (not true && jumps)) || (back && (from_above && down)))) ≡ false
too_high false up jumps back from_above down none = refl
too_high true false jumps back from_above down none = not_up true true jumps back from_above down none
too_high true true jumps back from_above down none = not_up true true jumps back from_above down none

stopped : (offered rises back from_above down : Bool) → (back && from_above) ≡ false → (offered && ((not true && rises) || (back && (from_above && down)))) ≡ false
stopped offered rises back from_above down none = not_up offered rises true back from_above down none

-- a release that is no stone blocks nothing more
pub no_stone_more : (blocked stone above : Bool) → stone ≡ false → (blocked || (stone && above)) ≡ blocked
no_stone_more true stone above none = refl
no_stone_more false true above none = absurd (false≢true (sym none))
no_stone_more false false above none = refl

-- an item that passes among the first is among more
any-on :
    {A : Type 0} (p : A → Bool) (xs : List A) (n m : ℕ) →
    list_any p (take n xs) ≡ true → n ≤ m → list_any p (take m xs) ≡ true
any-on p [] zero m is high = absurd (false≢true is)
any-on p [] (suc n) m is high = absurd (false≢true is)
any-on p (x ∷ xs) zero m is high = absurd (false≢true is)
any-on p (x ∷ xs) (suc n) zero is high = absurd (omega arith)
any-on p (x ∷ xs) (suc n) (suc m) is high = cases (p x) refl (λ rest. any-on p xs n m rest (omega arith))
  where
    cases :
        (b : Bool) → p x ≡ b → (list_any p (take n xs) ≡ true → list_any p (take m xs) ≡ true) →
        (p x || list_any p (take m xs)) ≡ true
    cases true passes on = ap (λ b. b || list_any p (take m xs)) passes
    cases false fails on =
        ap (λ b. b || list_any p (take m xs)) fails
        ∙ on (sym (ap (λ b. b || list_any p (take n xs)) fails) ∙ is)

module _ (releases : List Release) (cohort : Cohort) (key : TrackKey) (target version : List ℕ) where
  -- all releases are a range
  pub IsWindow-all : IsWindow releases cohort key target version 0 (length releases)
  IsWindow-all =
      record {
        begins = omega arith;
        ends = omega arith;
        low = λ k d low less. absurd (omega arith);
        before = λ k d low less. absurd (omega arith);
        behind = λ k d low less. absurd (omega arith);
      }

  -- unless a client may be downgraded it is led to none but those above its version up to the target
  pub IsWindow-up :
      (start end : ℕ) → may_fall cohort key target version ≡ false →
      start ≤ length releases → end ≤ length releases →
      AllWithin (λ (release : Release). is_below version release.version ≡ false) releases 0 start →
      AllWithin (λ (release : Release). is_below target release.version ≡ true) releases end (length releases) →
      IsWindow releases cohort key target version start end
  IsWindow-up start end stays begins ends low high =
      let back = rolls_back cohort key in
      let from_above = is_below target version in
      record {
        begins = begins;
        ends = ends;
        low = low;
        before = λ k d at less.
            let to = get_or releases k d in
            let offered = is_offered_at cohort key.pin version to in
            let jumps = not (jumps_stone releases version to.version) in
            let down = is_below to.version version in
            ap (λ b. offered && ((b && (not (is_below target to.version) && jumps)) || (back && (from_above && down)))) (low k d at less)
            ∙ not_up offered (not (is_below target to.version)) jumps back from_above down stays;
        behind = λ k d at less.
            let to = get_or releases k d in
            let offered = is_offered_at cohort key.pin version to in
            let jumps = not (jumps_stone releases version to.version) in
            let down = is_below to.version version in
            ap (λ b. offered && ((is_below version to.version && (not b && jumps)) || (back && (from_above && down)))) (high k d at less)
            ∙ too_high offered (is_below version to.version) jumps back from_above down stays;
      }

  -- no stone among the first releases is above the version, if none of them is
  none_blocked :
      (some : List Release) (count : ℕ) → count ≤ length some →
      AllWithin (λ (release : Release). is_below version release.version ≡ false) some 0 count →
      is_blocked version (take count some) ≡ false
  none_blocked [] zero within low = refl
  none_blocked [] (suc count) within low = refl
  none_blocked (release ∷ some) zero within low = refl
  none_blocked (release ∷ some) (suc count) within low =
      ap (λ b. (release.stone && b) || is_blocked version (take count some)) (low 0 release (omega arith) (omega arith))
      ∙ ap (λ b. b || is_blocked version (take count some)) (no_stone release.stone)
      ∙ none_blocked some count (omega arith) (λ k d at less. low (suc k) d (omega arith) (omega arith))
    where
      no_stone : (b : Bool) → (b && false) ≡ false
      no_stone true = refl
      no_stone false = refl

  module _ (rows : List Row) where
    abbrev sums : ℕ → Option ℕ
    sums to = sum_into releases cohort key target version rows to

    no_sum :
        (to : ℕ) → ((d : Release) → permits_full releases cohort key target version (get_or releases to d) ≡ false) → sums to ≡ None
    no_sum to none = cases (slice_get releases to) refl
      where
        sum_of : Option Release → Option ℕ
        sum_of o = option_and_then (λ (r : Release). sum_if (permits_full releases cohort key target version r) rows to r) o

        cases : (o : Option Release) → slice_get releases to ≡ o → sums to ≡ None
        cases None is = ap sum_of is
        cases (Some release) is =
            let own = get_or_from_slice_get releases to release release is in
            ap sum_of is
            ∙ ap (λ b. sum_if b rows to release) (ap (λ (r : Release). permits_full releases cohort key target version r) (sym own) ∙ none release)

    -- the best of some is the best of more that have no sum
    IsBest-more :
        (count size : ℕ) (best : Option Best) → count ≤ size →
        ((to : ℕ) → count ≤ to → to < size → sums to ≡ None) →
        IsBest sums count best → IsBest sums size best
    IsBest-more count size None more none is = λ to within. elim (cases_lt to count) [
      | inl less ↦ is to less
      | inr high ↦ none to high within
    ]
    IsBest-more count size (Some best) more none is =
        let low = is.within in
        record {
          within = omega arith;
          is = is.is;
          least = λ to sum within found. elim (cases_lt to count) [
            | inl less ↦ is.least to sum less found
            | inr high ↦ absurd (let both : None ≡ Some sum = sym (none to high within) ∙ found in cc)
          ];
        }

    -- before a range there is no best one, and no stone
    pub HasLooked-start :
        (start end : ℕ) → IsWindow releases cohort key target version start end →
        HasLooked releases cohort key target version rows start None false
    HasLooked-start start end window =
        record {
          best_is = λ to less. no_sum to (λ d. window.before to d (omega arith) less);
          blocked_is = sym (none_blocked releases start window.begins window.low);
        }

    -- after it there is no better one
    pub IsBest-end :
        (start end to : ℕ) (best : Option Best) (blocked : Bool) →
        IsWindow releases cohort key target version start end → end ≤ to → to ≤ length releases →
        HasLooked releases cohort key target version rows to best blocked →
        IsBest sums (length releases) best
    IsBest-end start end to best blocked window high within looked =
        IsBest-more to (length releases) best within
        (λ k above less. no_sum k (λ d. window.behind k d (omega arith) less))
        looked.best_is

    -- nor after a stone
    module _ (irreflexive : BelowIsIrreflexive) (transitive : BelowIsTransitive) (rises : ascend is_release_below releases ≡ true) where
      blocked_on : (count more : ℕ) → is_blocked version (take count releases) ≡ true → count ≤ more → is_blocked version (take more releases) ≡ true
      blocked_on count more is high = any-on (is_stone_above version) releases count more is high

      pub IsBest-blocked :
          (to : ℕ) (best : Option Best) → to ≤ length releases →
          may_fall cohort key target version ≡ false →
          HasLooked releases cohort key target version rows to best true →
          IsBest sums (length releases) best
      IsBest-blocked to best within stays looked =
          IsBest-more to (length releases) best within
          (λ k above less. no_sum k (λ d.
          let release = get_or releases k d in
          let item = get_or_default releases k d release less in
          let offered = is_offered_at cohort key.pin version release in
          let up = is_below version release.version && not (is_below target release.version) in
          let down = is_below release.version version in
          permits_full-before irreflexive transitive releases rises cohort key target version k release less item
          ∙ ap (λ b. leads_to cohort key target version b release) (blocked_on to k (sym looked.blocked_is) above)
          ∙ stopped offered up (rolls_back cohort key) (is_below target version) down stays))
          looked.best_is
