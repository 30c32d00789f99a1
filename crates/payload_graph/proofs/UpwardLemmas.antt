-- Which releases a client may be led up to, by index: those before its release's reach.
use Rattle.std.proofs.Common.{◌≡◌, ℕ, ◌+◌, ◌-◌, ◌<◌, ◌≤◌, ◌&&◌, inl, inr, Bool, true, false, List, length, get_or, take, refl, sym, ap, ◌∙◌, arith}
use Rattle.std.specs.List.{list_any}
use Rattle.std.proofs.lemmas.Bool.{and_from, and_left, and_right, cases_lt, not_from_false, not_from_true}
use Rattle.catalogue.specs.VersionLaws.{BelowIsIrreflexive, BelowIsTransitive}
use Rattle.catalogue.specs.Versions.{is_below}
use Rattle.values.specs.Ordered.{ascend}
use Rattle.catalogue.specs.Validity.{is_release_below}
use Rattle.catalogue.specs.declared.content.Cohort.{Cohort}
use Rattle.catalogue.specs.declared.content.Release.{Release}
use Rattle.cohorts.specs.declared.pin.Pin.{Pin}
use Rattle.payload_graph.specs.Permitted.{is_stone_between, jumps_stone, leads_up}
use Rattle.payload_graph.proofs.DoorLemmas.{get_or-doors_of, length-doors_of}
use Rattle.payload_graph.proofs.OrderLemmas.{below_at, not_below_at}
use Rattle.payload_graph.proofs.RangeLemmas.{AgreeBetween, list_any-between, take-between}
use Rattle.payload_graph.proofs.ReachLemmas.{is_stone, length-between, no_stone_before, reach_of-bounds, stone_before}
use Rattle.payload_graph.specs.Net.{between, doors_of}
use Rattle.payload_graph.specs.Soundness.{no_door, reach_of}
use Rattle.payload_graph.specs.declared.door.Door.{Door}

pub and-true : (b : Bool) → (b && true) ≡ b
and-true true = refl
and-true false = refl

module _ (irreflexive : BelowIsIrreflexive) (transitive : BelowIsTransitive) (cohort : Cohort) (pin : Pin) (releases : List Release) (d : Release) (rises : ascend is_release_below releases ≡ true) where
  abbrev doors : List Door
  doors = doors_of cohort pin releases

  abbrev version_of : ℕ → List ℕ
  version_of index = (get_or releases index d).version

  below : (i j : ℕ) → i < j → j < length releases → is_below (version_of i) (version_of j) ≡ true
  below i j less within = below_at releases d i j rises less within

  not_below : (i j : ℕ) → j ≤ i → i < length releases → is_below (version_of i) (version_of j) ≡ false
  not_below i j less within = not_below_at irreflexive transitive releases d i j rises less within

  -- a stone is jumped if one of the doors between is a stone
  jumps_stone-at :
      (from to : ℕ) → from < to → to < length releases →
      jumps_stone releases (version_of from) (version_of to) ≡ list_any is_stone (between (from + 1) to doors)
  jumps_stone-at from to less within =
      list_any-between (is_stone_between (version_of from) (version_of to)) is_stone d no_door releases doors (from + 1) to agree (sym (length-doors_of cohort pin releases))
    where
      stone_at : (k : ℕ) → k < length releases → (get_or releases k d).stone ≡ is_stone (get_or doors k no_door)
      stone_at k there = sym (ap (λ (door : Door). door.stone) (get_or-doors_of cohort pin releases k no_door d there))

      agree : AgreeBetween (is_stone_between (version_of from) (version_of to)) is_stone d no_door (from + 1) to releases doors
      agree = record {
        below = λ k there low.
            and_right _ _ (and_left _ _ (not_below from k (omega arith) (omega arith)));
        above = λ k there high.
            and_right _ _ (and_right _ _ (not_below k to high there));
        inside = λ k there low high.
            let lower = below from k (omega arith) there in
            let upper = below k to high within in
            ap (λ b. (get_or releases k d).stone && (b && is_below (version_of k) (version_of to))) lower
            ∙ ap (λ b. (get_or releases k d).stone && b) upper
            ∙ and-true (get_or releases k d).stone
            ∙ stone_at k there;
      }

  module _ (target from : ℕ) (aimed : target < length releases) where
    -- no release at or below
    pub leads_up-below :
        (to : ℕ) → to ≤ from → from < length releases →
        leads_up releases (version_of target) (version_of from) (version_of to) ≡ false
    leads_up-below to low within = and_left _ _ (not_below from to low within)

    -- none from above the target
    pub leads_up-past :
        (to : ℕ) → target < from → from < length releases → to < length releases →
        leads_up releases (version_of target) (version_of from) (version_of to) ≡ false
    leads_up-past to past within there = elim (cases_lt from to) [
      | inl higher ↦
          and_right _ _ (and_left _ _ (not_from_true _ (below target to (omega arith) there)))
      | inr lower ↦ leads_up-below to lower within
    ]

    -- the doors between, as a part of those up to the target
    between-part :
        (to : ℕ) → from < to → to ≤ target + 1 →
        list_any is_stone (between (from + 1) to doors)
        ≡ list_any is_stone (take (to - (from + 1)) (between (from + 1) (target + 1) doors))
    between-part to low high =
        let whole : from + 1 + (to - (from + 1)) ≡ to = omega arith in
        ap (λ n. list_any is_stone (between (from + 1) n doors)) (sym whole)
        ∙ ap (list_any is_stone) (sym (take-between doors (from + 1) (target + 1) (to - (from + 1)) (omega arith)))

    -- each release before the reach
    pub leads_up-inside :
        (to : ℕ) → from ≤ target → from < to → to < reach_of target doors from →
        leads_up releases (version_of target) (version_of from) (version_of to) ≡ true
    leads_up-inside to low higher reached =
        let sized = length-doors_of cohort pin releases in
        let bounds = reach_of-bounds target doors from low (omega arith) in
        let stones = no_stone_before (between (from + 1) (target + 1) doors) (to - (from + 1)) (omega arith) in
        let jumps = jumps_stone-at from to higher (omega arith) ∙ between-part to higher (omega arith) ∙ stones in
        and_from _ _ (below from to higher (omega arith))
        (and_from _ _ (not_from_false _ (not_below target to (omega arith) aimed)) (not_from_false _ jumps))

    -- and none after it
    pub leads_up-above :
        (to : ℕ) → from ≤ target → reach_of target doors from ≤ to → to < length releases →
        leads_up releases (version_of target) (version_of from) (version_of to) ≡ false
    leads_up-above to low behind there = elim (cases_lt target to) [
      | inl higher ↦
          and_right _ _ (and_left _ _ (not_from_true _ (below target to higher there)))
      | inr lower ↦
          let sized = length-doors_of cohort pin releases in
          let size = length-between doors (from + 1) (target + 1) (omega arith) in
          let stones = stone_before (between (from + 1) (target + 1) doors) (to - (from + 1)) (omega arith) (omega arith) in
          let jumps = jumps_stone-at from to (omega arith) there ∙ between-part to (omega arith) (omega arith) ∙ stones in
          and_right _ _ (and_right _ _ (not_from_true _ jumps))
    ]
