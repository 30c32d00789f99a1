-- The full packages that open at a release, among those of all doors below their floors.
use Rattle.std.proofs.Common.{◌≡◌, ℕ, ◌⊎◌, ◌&&◌, inl, inr, Bool, true, false, cond, not, List, [], ◌∷◌, eqb, leb, ltb, map, None, Some, Less, Equal, refl, sym, ap, ◌∙◌, arith}
use Rattle.std.specs.Cmp.{nat_cmp_is}
use Rattle.std.specs.List.{cons_option, filter, filter_map}
use Rattle.std.specs.List.Sorted.{IsStableByKey}
use Rattle.std.specs.Ordering.{is_lt, nat_cmp}
use Rattle.std.proofs.lemmas.Bool.{cases_eq, cases_lt, eq-eqb, le-leb, ne_eqb}
use Rattle.payload_graph.specs.Net.{full, fulls, leaves, opens}
use Rattle.payload_graph.specs.Soundness.{is_floor_of, late_edge, no_door, openings}
use Rattle.payload_graph.specs.declared.door.Door.{Door}
use Rattle.payload_graph.specs.declared.edge.Edge.{Edge}

and-false : (b : Bool) → (b && false) ≡ false
and-false true = refl
and-false false = refl

-- the full package of a door whose floor is this index and above it, before others
one-opening :
    (door : Door) (index : ℕ) (edges : List Edge) (doors : List Door) →
    filter (leaves index) edges ≡ openings doors index →
    filter (leaves index) (cond (door.offered && ltb door.to door.floor) (full door.floor door ∷ edges) edges)
    ≡ openings (door ∷ doors) index
one-opening door index edges doors rest = by_floor (cases_eq index door.floor)
  where
    kept : List Door
    kept = filter (is_floor_of index) doors

    -- a door that isn't of this index
    other : is_floor_of index door ≡ false → openings (door ∷ doors) index ≡ openings doors index
    other not_its = ap (λ b. fulls index (cond b (door ∷ kept) kept)) not_its

    -- an edge that leaves another release, or none
    left_out : (b : Bool) → eqb index door.floor ≡ false → filter (leaves index) (cond b (full door.floor door ∷ edges) edges) ≡ filter (leaves index) edges
    left_out false away = refl
    left_out true away = ap (λ b. cond b (full door.floor door ∷ filter (leaves index) edges) (filter (leaves index) edges)) away

    away_from : ¬ (index ≡ door.floor) →
        filter (leaves index) (cond (door.offered && ltb door.to door.floor) (full door.floor door ∷ edges) edges)
        ≡ openings (door ∷ doors) index
    away_from away =
        let apart = ne_eqb index door.floor away in
        left_out (door.offered && ltb door.to door.floor) apart ∙ rest
        ∙ sym (other (ap (λ b. ltb door.to index && b) apart ∙ and-false (ltb door.to index)))

    -- a door that doesn't open
    skips : opens index door ≡ false → (b : Bool) → fulls index (cond b (door ∷ kept) kept) ≡ openings doors index
    skips shut true = ap (λ o. map (full index) (cond o (door ∷ filter (opens index) kept) (filter (opens index) kept))) shut
    skips shut false = refl

    -- a door of this floor
    here : index ≡ door.floor → (offered late : Bool) → door.offered ≡ offered → ltb door.to door.floor ≡ late →
        filter (leaves index) (cond (offered && late) (full door.floor door ∷ edges) edges)
        ≡ openings (door ∷ doors) index
    here same offered false is behind =
        let none : is_floor_of index door ≡ false = ap (λ n. ltb door.to n && eqb index door.floor) same ∙ ap (λ b. b && eqb index door.floor) behind in
        ap (λ b. filter (leaves index) (cond b (full door.floor door ∷ edges) edges)) (and-false offered) ∙ rest ∙ sym (other none)
    here same false true is ahead =
        let shut : opens index door ≡ false = ap (λ b. leb door.floor index && b) is ∙ and-false (leb door.floor index) in
        rest ∙ sym (skips shut (is_floor_of index door))
    here same true true is ahead =
        let its : is_floor_of index door ≡ true =
        ap (λ n. ltb door.to n && eqb index door.floor) same ∙ ap (λ b. b && eqb index door.floor) ahead ∙ eq-eqb index door.floor same in
        let open_here : opens index door ≡ true =
        ap (λ b. b && door.offered) (le-leb door.floor index (omega (arith, same))) ∙ is in
        let mine : leaves index (full door.floor door) ≡ true = eq-eqb index door.floor same in
        ap (λ b. cond b (full door.floor door ∷ filter (leaves index) edges) (filter (leaves index) edges)) mine
        ∙ ap (λ n. full n door ∷ filter (leaves index) edges) (sym same)
        ∙ ap (λ (es : List Edge). full index door ∷ es) rest
        ∙ sym (
        ap (λ b. fulls index (cond b (door ∷ kept) kept)) its
        ∙ ap (λ o. map (full index) (cond o (door ∷ filter (opens index) kept) (filter (opens index) kept))) open_here)

    by_floor : (index ≡ door.floor) ⊎ ¬ (index ≡ door.floor) →
        filter (leaves index) (cond (door.offered && ltb door.to door.floor) (full door.floor door ∷ edges) edges)
        ≡ openings (door ∷ doors) index
    by_floor (inl same) = here same door.offered (ltb door.to door.floor) refl refl
    by_floor (inr away) = away_from away

-- those of all doors that leave an index are the ones that open there
pub filter-late : (doors : List Door) (index : ℕ) → filter (leaves index) (filter_map late_edge doors) ≡ openings doors index
filter-late [] index = refl
filter-late (door ∷ doors) index =
    ap (filter (leaves index)) (added (door.offered && ltb door.to door.floor))
    ∙ one-opening door index (filter_map late_edge doors) doors (filter-late doors index)
  where
    added :
        (b : Bool) →
        cons_option (cond b (Some (full door.floor door)) None) (filter_map late_edge doors)
        ≡ cond b (full door.floor door ∷ filter_map late_edge doors) (filter_map late_edge doors)
    added true = refl
    added false = refl

-- two numbers tie exactly if they are equal
ties-eqb : (a b : ℕ) → (not (is_lt (nat_cmp a b)) && not (is_lt (nat_cmp b a))) ≡ eqb a b
ties-eqb a b = elim (cases_eq a b) [
  | inl same ↦
      ap (λ o. not (is_lt o) && not (is_lt (nat_cmp b a))) (sym (nat_cmp_is a b Equal same))
      ∙ ap (λ o. not (is_lt o)) (sym (nat_cmp_is b a Equal (sym same)))
      ∙ sym (eq-eqb a b same)
  | inr other ↦ elim (cases_lt a b) [
    | inl below ↦
        ap (λ o. not (is_lt o) && not (is_lt (nat_cmp b a))) (sym (nat_cmp_is a b Less below)) ∙ sym (ne_eqb a b other)
    | inr above ↦
        ap (λ o. not (is_lt (nat_cmp a b)) && not (is_lt o)) (sym (nat_cmp_is b a Less (omega (arith, other))))
        ∙ and-false (not (is_lt (nat_cmp a b))) ∙ sym (ne_eqb a b other)
  ]
]

filter-agree : {A : Type 0} (p q : A → Bool) → ((x : A) → p x ≡ q x) → (xs : List A) → filter p xs ≡ filter q xs
filter-agree p q agree [] = refl
filter-agree p q agree (x ∷ xs) =
    ap (λ b. cond b (x ∷ filter p xs) (filter p xs)) (agree x)
    ∙ ap (λ ys. cond (q x) (x ∷ ys) ys) (filter-agree p q agree xs)

-- a stable sort by origin keeps the edges that leave each release
pub filter-stable :
    (edges sorted : List Edge) → IsStableByKey (λ (edge : Edge). edge.from) nat_cmp edges sorted →
    (index : ℕ) → filter (leaves index) sorted ≡ filter (leaves index) edges
filter-stable edges sorted stable index =
    let agree = λ (edge : Edge). ties-eqb index edge.from in
    sym (filter-agree _ (leaves index) agree sorted) ∙ stable (full index no_door) ∙ filter-agree _ (leaves index) agree edges
