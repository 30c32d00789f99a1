-- The full packages that lead to a release: one from each release whose window has it, if its door opens
-- from there.
use Rattle.std.proofs.Common.{◌≡◌, ℕ, ◌+◌, ◌<◌, ◌≤◌, ◌&&◌, inl, inr, Bool, true, false, cond, eqb, ltb, List, [], ◌∷◌, length, get_or, map, take, refl, sym, ap, ◌∙◌, arith}
use Rattle.std.specs.List.{filter}
use Rattle.std.proofs.lemmas.Bool.{and_from, and_left, and_right, cases_lt, eq-eqb, le-ltb, lt-ltb, ne_eqb}
use Rattle.payload_graph.proofs.FlatLemmas.{filter-map_filter, filter-nothing}
use Rattle.payload_graph.proofs.NearerLemmas.{All-between, window-above, window-below}
use Rattle.payload_graph.proofs.RangeLemmas.{between-more, between-none, filter-between}
use Rattle.payload_graph.proofs.ReachLemmas.{reach_of-bounds}
use Rattle.payload_graph.proofs.UpwardLemmas.{and-true}
use Rattle.payload_graph.specs.Net.{Net, between, enters, full, fulls, opens, window}
use Rattle.payload_graph.specs.Soundness.{AreNumbered, no_door, reach_of}
use Rattle.payload_graph.specs.declared.door.Door.{Door}

module _ (net : Net) (to : ℕ) (numbered : AreNumbered net.doors) (within : net.target < length net.doors) (there : to < length net.doors) where
  abbrev door_to : Door
  door_to = get_or net.doors to no_door

  -- the door opens from a release, and is the one that leads there
  abbrev is_its : ℕ → Door → Bool
  is_its from door = opens from door && eqb to door.to

  other_door : (from k : ℕ) → k < length net.doors → (k ≡ to → ⊥) → is_its from (get_or net.doors k no_door) ≡ false
  other_door from k fits other =
      and_right _ _ (ne_eqb to (get_or net.doors k no_door).to (λ same. other (sym (numbered k fits) ∙ sym same)))

  own_door : (from : ℕ) → is_its from door_to ≡ opens from door_to
  own_door from =
      ap (λ b. opens from door_to && b) (eq-eqb to door_to.to (sym (numbered to there)))
      ∙ and-true (opens from door_to)

  -- it is once among all doors
  alone : (from : ℕ) → filter (is_its from) net.doors ≡ cond (opens from door_to) (door_to ∷ []) []
  alone from =
      filter-between (is_its from) (is_its from) no_door net.doors to (to + 1) (record {
        below = λ k fits less. other_door from k fits (λ same. omega arith);
        above = λ k fits more. other_door from k fits (λ same. omega arith);
        inside = λ k fits less more. refl;
      })
      ∙ ap (filter (is_its from)) (between-more net.doors to (to + 1) no_door (omega arith) (omega arith))
      ∙ ap (λ (rest : List Door). filter (is_its from) (door_to ∷ rest))
      (between-none net.doors (to + 1) (to + 1) (omega arith))
      ∙ ap (λ b. cond b (door_to ∷ []) []) (own_door from)

  -- and once among those between two indexes, if it is between them
  inside :
      (from low high : ℕ) → low ≤ to → to < high →
      filter (is_its from) (between low high net.doors) ≡ cond (opens from door_to) (door_to ∷ []) []
  inside from low high less more =
      sym (filter-between (is_its from) (is_its from) no_door net.doors low high (record {
        below = λ k fits under. other_door from k fits (λ same. omega arith);
        above = λ k fits over. other_door from k fits (λ same. omega arith);
        inside = λ k fits under over. refl;
      }))
      ∙ alone from

  outside :
      (from low high : ℕ) → high ≤ length net.doors → ((k : ℕ) → low ≤ k → k < high → k ≡ to → ⊥) →
      filter (is_its from) (between low high net.doors) ≡ []
  outside from low high fits other =
      let each = All-between (λ (door : Door). is_its from door ≡ false) net.doors low high fits (λ k less more.
      other_door from k (omega arith) (other k less more)) in
      filter-nothing (is_its from) (between low high net.doors) no_door (λ k reached. each k no_door reached)

  -- the window of a release at or below the target has it, and that of one above the target
  abbrev pub is_above : ℕ → Bool
  is_above from = ltb from to && ltb to (reach_of net.target net.doors from)

  abbrev pub is_below : ℕ → Bool
  is_below from = net.rollback && ltb to from

  abbrev pub is_within : ℕ → Bool
  is_within from = cond (ltb net.target from) (is_below from) (is_above from)

  -- the full package of a release leads to it: it is in the release's window, and opens from there
  abbrev pub is_origin : ℕ → Bool
  is_origin from = opens from door_to && is_within from

  is_led :
      (from : ℕ) → is_within from ≡ true →
      filter (is_its from) (window net from) ≡ cond (opens from door_to) (door_to ∷ []) [] →
      map (full from) (filter (is_its from) (window net from))
      ≡ cond (is_origin from) (full from door_to ∷ []) []
  is_led from holds one =
      ap (map (full from)) one
      ∙ cases (opens from door_to)
      ∙ sym (ap (λ b. cond (opens from door_to && b) (full from door_to ∷ []) []) holds)
    where
      cases :
          (b : Bool) →
          map (full from) (cond b (door_to ∷ []) []) ≡ cond (b && true) (full from door_to ∷ []) []
      cases true = refl
      cases false = refl

  is_not_led :
      (from : ℕ) → is_within from ≡ false →
      filter (is_its from) (window net from) ≡ [] →
      map (full from) (filter (is_its from) (window net from))
      ≡ cond (is_origin from) (full from door_to ∷ []) []
  is_not_led from fails none =
      ap (map (full from)) none
      ∙ sym (ap (λ b. cond b (full from door_to ∷ []) []) (and_right (opens from door_to) (is_within from) fails))

  pub is_within-low : (from : ℕ) → from ≤ net.target → is_within from ≡ is_above from
  is_within-low from low = ap (λ b. cond b (is_below from) (is_above from)) (le-ltb net.target from low)

  pub is_within-high : (from : ℕ) → net.target < from → is_within from ≡ is_below from
  is_within-high from high = ap (λ b. cond b (is_below from) (is_above from)) (lt-ltb net.target from high)

  from_below :
      (from : ℕ) → from ≤ net.target →
      map (full from) (filter (is_its from) (window net from))
      ≡ cond (is_origin from) (full from door_to ∷ []) []
  from_below from low =
      let reach = reach_of net.target net.doors from in
      let bounds = reach_of-bounds net.target net.doors from low within in
      let shown = ap (filter (is_its from)) (window-below net from low within) in
      elim (cases_lt from to) [
        | inl under ↦
            elim (cases_lt to reach) [
              | inl reached ↦
                  is_led from
                  (is_within-low from low ∙ and_from _ _ (lt-ltb from to under) (lt-ltb to reach reached))
                  (shown ∙ inside from (from + 1) reach (omega arith) reached)
              | inr past ↦
                  is_not_led from
                  (is_within-low from low ∙ and_right _ _ (le-ltb to reach past))
                  (shown ∙ outside from (from + 1) reach (omega arith) (λ k less more same. omega arith))
            ]
        | inr over ↦
            is_not_led from
            (is_within-low from low ∙ and_left _ _ (le-ltb from to over))
            (shown ∙ outside from (from + 1) reach (omega arith) (λ k less more same. omega arith))
      ]

  from_above :
      (from : ℕ) (b : Bool) → net.rollback ≡ b → net.target < from → from < length net.doors →
      map (full from) (filter (is_its from) (window net from))
      ≡ cond (is_origin from) (full from door_to ∷ []) []
  from_above from true rolls high fits =
      let window = window-above net from high ∙ ap (λ b. cond b (take from net.doors) []) rolls in
      let shown = ap (filter (is_its from)) window in
      elim (cases_lt to from) [
        | inl under ↦
            is_led from (is_within-high from high ∙ and_from _ _ rolls (lt-ltb to from under))
            (shown ∙ inside from 0 from (omega arith) under)
        | inr over ↦
            is_not_led from (is_within-high from high ∙ and_right _ _ (le-ltb to from over))
            (shown ∙ outside from 0 from (omega arith) (λ k less more same. omega arith))
      ]
  from_above from false rolls high fits =
      is_not_led from (is_within-high from high ∙ and_left _ _ rolls)
      (ap (filter (is_its from)) (window-above net from high ∙ ap (λ b. cond b (take from net.doors) []) rolls))

  pub fulls-entering :
      (from : ℕ) → from < length net.doors →
      filter (enters to) (fulls from (window net from))
      ≡ cond (is_origin from) (full from door_to ∷ []) []
  fulls-entering from fits =
      filter-map_filter (enters to) (full from)
      (opens from) (λ (door : Door). eqb to door.to) (λ door. refl) (window net from)
      ∙ elim (cases_lt net.target from) [
        | inl high ↦ from_above from net.rollback refl high fits
        | inr low ↦ from_below from low
      ]
