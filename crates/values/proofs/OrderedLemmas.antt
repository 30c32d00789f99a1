-- The place of a key in a list that ascends by it: the item that is there, and a list with one more
-- item put in its place.
use Rattle.std.proofs.Common.{◌≡◌, ℕ, zero, suc, ◌+◌, ◌<◌, ◌≤◌, ◌||◌, Bool, true, false, cond, not, List, [], ◌∷◌, ◌++◌, insert, length, get_or, find, Option, Some, None, refl, ap, sym, ◌∙◌, arith}
use Rattle.std.specs.List.{list_all, list_any, position, position_from, position_or_len, slice_get}
use Rattle.std.specs.List.Sorted.{IsPartitionPoint, IsPartitionedBy}
use Rattle.std.specs.Option.{option_map_or}
use Rattle.std.proofs.lemmas.Bool.{and_from, and_parts, false≢true, or_parts}
use Rattle.std.proofs.lemmas.Iterator.Adapters.{position_from-zero}
use Rattle.std.proofs.lemmas.List.Folds.{find_at}
use Rattle.std.proofs.lemmas.List.Sums.{AllPass-from_list_all, position_or_len_is}
use Rattle.values.proofs.InsertedLemmas.{list_all-Inserts, list_all-weaker}
use Rattle.values.proofs.InsertionLemmas.{Inserts, Inserts-insert}
use Rattle.values.specs.Ordered.{IsOrder, ascend, has_in, place_in, put_in}

module _ {K A : Type 0} (below same : K → K → Bool) (key : A → K) where
  -- items compare as their keys do
  abbrev pub before : A → A → Bool
  before x y = below (key x) (key y)

  -- the item's key is below another
  abbrev pub under : K → A → Bool
  under k x = below (key x) k

  -- the item has the key
  abbrev pub at : K → A → Bool
  at k x = same k (key x)

  pub Inserts-put_in : (item : A) (xs : List A) → Inserts item xs (put_in below key item xs)
  Inserts-put_in item xs = Inserts-insert xs (place_in below key (key item) xs) item

  -- where those below a key end is the key's place
  pub place_in-from_point :
      (k : K) (xs : List A) (i : ℕ) → i ≤ length xs →
      IsPartitionPoint (λ x. under k x ≡ true) (λ x. under k x ≡ false) xs i →
      i ≡ place_in below key k xs
  place_in-from_point k [] i within point = let none : i ≡ 0 = omega arith in none
  place_in-from_point k (x ∷ xs) i within point =
      sym (position_or_len_is (λ (y : A). not (under k y)) (x ∷ xs) i x within
      (λ j first. ap not (point.0 j x (omega arith) first))
      (λ inside. ap not (point.1 i x (omega arith) inside)))

  -- an item goes after those below it
  pub put_in-cons :
      (item x : A) (xs : List A) →
      put_in below key item (x ∷ xs)
      ≡ cond (before x item) (x ∷ put_in below key item xs) (item ∷ x ∷ xs)
  put_in-cons item x xs = cases (before x item) refl
    where
      cases :
          (b : Bool) → before x item ≡ b →
          put_in below key item (x ∷ xs) ≡ cond b (x ∷ put_in below key item xs) (item ∷ x ∷ xs)
      cases true is_below =
          let next : 1 + place_in below key (key item) xs ≡ suc (place_in below key (key item) xs) = omega arith in
          ap (λ index. insert (x ∷ xs) index item)
          (ap (λ b. cond (not (not b)) (1 + place_in below key (key item) xs) 0) is_below ∙ next)
      cases false not_below =
          ap (λ index. insert (x ∷ xs) index item)
          (ap (λ b. cond (not (not b)) (1 + place_in below key (key item) xs) 0) not_below)

  -- an item that comes after all others goes to the end
  pub put_in-last :
      (item : A) (xs : List A) → list_all (λ x. before x item) xs ≡ true →
      put_in below key item xs ≡ xs ++ item ∷ []
  put_in-last item [] all = refl
  put_in-last item (x ∷ xs) all =
      let parts = and_parts (before x item) (list_all (λ y. before y item) xs) all in
      put_in-cons item x xs
      ∙ ap (λ b. cond b (x ∷ put_in below key item xs) (item ∷ x ∷ xs)) parts.0
      ∙ ap (λ ys. x ∷ ys) (put_in-last item xs parts.1)

  module _ (order : IsOrder below same) where
    -- of ascending items those below a key come first
    pub IsPartitionedBy-ascend :
        (k : K) (xs : List A) → ascend before xs ≡ true → IsPartitionedBy (under k) xs
    IsPartitionedBy-ascend k [] ascending i j d first within is_under = absurd (omega arith)
    IsPartitionedBy-ascend k (x ∷ xs) ascending zero zero d first within is_under = is_under
    IsPartitionedBy-ascend k (x ∷ xs) ascending (suc i) zero d first within is_under = absurd (omega arith)
    IsPartitionedBy-ascend k (x ∷ xs) ascending zero (suc j) d first within is_under =
        let parts = and_parts (list_all (before x) xs) (ascend before xs) ascending in
        let earlier = AllPass-from_list_all (before x) xs parts.0 j d (omega arith) in
        order.transitive (key x) (key (get_or xs j d)) k earlier is_under
    IsPartitionedBy-ascend k (x ∷ xs) ascending (suc i) (suc j) d first within is_under =
        let parts = and_parts (list_all (before x) xs) (ascend before xs) ascending in
        IsPartitionedBy-ascend k xs parts.1 i j d (omega arith) (omega arith) is_under

    -- an item below a key has another one
    at-under : (k : K) (x : A) → under k x ≡ true → at k x ≡ false
    at-under k x is_under = cases (at k x) refl
      where
        cases : (b : Bool) → at k x ≡ b → b ≡ false
        cases false other = refl
        cases true is_same =
            let equal = order.equal k (key x) is_same in
            let below_itself : below k k ≡ true = rw (sym equal) at is_under in
            absurd (false≢true (sym (order.irreflexive k) ∙ below_itself))

    -- nor do items after one that is not below the key have it
    none_after :
        (k : K) (x : A) (xs : List A) → under k x ≡ false → list_all (before x) xs ≡ true →
        has_in same key k xs ≡ false
    none_after k x [] not_under after = refl
    none_after k x (y ∷ ys) not_under after =
        let parts = and_parts (before x y) (list_all (before x) ys) after in
        cases (at k y) refl parts.0 (none_after k x ys not_under parts.1)
      where
        cases :
            (b : Bool) → at k y ≡ b → before x y ≡ true → has_in same key k ys ≡ false →
            (b || has_in same key k ys) ≡ false
        cases false other here others = others
        cases true is_same here others =
            let equal = order.equal k (key y) is_same in
            let is_under : under k x ≡ true = ap (below (key x)) equal ∙ here in
            absurd (false≢true (sym not_under ∙ is_under))

    -- a key is there if the first item that is not below it has it
    has_in-from_find :
        (k : K) (xs : List A) → ascend before xs ≡ true →
        has_in same key k xs ≡ option_map_or (at k) (find (λ x. not (under k x)) xs) false
    has_in-from_find k [] ascending = refl
    has_in-from_find k (x ∷ xs) ascending =
        let parts = and_parts (list_all (before x) xs) (ascend before xs) ascending in
        cases (under k x) refl parts.0 (has_in-from_find k xs parts.1)
      where
        first : (b : Bool) → has_in same key k xs ≡ false → (b || has_in same key k xs) ≡ b
        first true none = refl
        first false none = none

        cases :
            (b : Bool) → under k x ≡ b → list_all (before x) xs ≡ true →
            has_in same key k xs ≡ option_map_or (at k) (find (λ y. not (under k y)) xs) false →
            has_in same key k (x ∷ xs)
            ≡ option_map_or (at k) (cond (not b) (Some x) (find (λ y. not (under k y)) xs)) false
        cases true is_under after others =
            ap (λ b. b || has_in same key k xs) (at-under k x is_under) ∙ others
        cases false not_under after others = first (at k x) (none_after k x xs not_under after)

    -- a key is there if the item in its place has it
    pub has_in-at_place :
        (k : K) (xs : List A) → ascend before xs ≡ true →
        has_in same key k xs ≡ option_map_or (at k) (slice_get xs (place_in below key k xs)) false
    has_in-at_place k xs ascending =
        has_in-from_find k xs ascending
        ∙ ap (λ o. option_map_or (at k) o false) (find_at (λ x. not (under k x)) xs)

    -- and its index, from the first one's, is that place
    position_from-at_place :
        (k : K) (first : ℕ) (xs : List A) → ascend before xs ≡ true →
        position_from (at k) first xs
        ≡ cond (has_in same key k xs) (Some (first + place_in below key k xs)) None
    position_from-at_place k first [] ascending = refl
    position_from-at_place k first (x ∷ xs) ascending =
        let parts = and_parts (list_all (before x) xs) (ascend before xs) ascending in
        cases (under k x) (at k x) refl refl parts.0 (position_from-at_place k (first + 1) xs parts.1)
      where
        cases :
            (b is_same : Bool) → under k x ≡ b → at k x ≡ is_same → list_all (before x) xs ≡ true →
            position_from (at k) (first + 1) xs
            ≡ cond (has_in same key k xs) (Some (first + 1 + place_in below key k xs)) None →
            cond is_same (Some first) (position_from (at k) (first + 1) xs)
            ≡ cond (is_same || has_in same key k xs)
            (Some (first + cond (not (not b)) (1 + place_in below key k xs) 0)) None
        cases true true is_under is after others =
            absurd (false≢true (sym (at-under k x is_under) ∙ is))
        cases true false is_under is after others =
            let later : first + 1 + place_in below key k xs ≡ first + (1 + place_in below key k xs) = omega arith in
            others ∙ ap (λ index. cond (has_in same key k xs) (Some index) None) later
        cases false true not_under is after others =
            let here : first ≡ first + 0 = omega arith in ap Some here
        cases false false not_under is after others =
            let none = none_after k x xs not_under after in
            others
            ∙ ap (λ b. cond b (Some (first + 1 + place_in below key k xs)) None) none
            ∙ sym (ap (λ b. cond b (Some (first + 0)) None) none)

    pub position-at_place :
        (k : K) (xs : List A) → ascend before xs ≡ true →
        position (at k) xs ≡ cond (has_in same key k xs) (Some (place_in below key k xs)) None
    position-at_place k xs ascending =
        let from_first : 0 + place_in below key k xs ≡ place_in below key k xs = omega arith in
        position_from-zero (at k) xs
        ∙ position_from-at_place k 0 xs ascending
        ∙ ap (λ index. cond (has_in same key k xs) (Some index) None) from_first

    -- a key that is above all others is new
    pub has_in-above :
        (item : A) (xs : List A) → list_all (λ x. before x item) xs ≡ true →
        has_in same key (key item) xs ≡ false
    has_in-above item [] all = refl
    has_in-above item (x ∷ xs) all =
        let parts = and_parts (before x item) (list_all (λ y. before y item) xs) all in
        ap (λ b. b || has_in same key (key item) xs) (at-under (key item) x parts.0)
        ∙ has_in-above item xs parts.1

    -- what is not below an item of another key comes after it
    before-turn :
        (item x : A) → before x item ≡ false → at (key item) x ≡ false → before item x ≡ true
    before-turn item x not_before other = cases (before item x) refl
      where
        cases : (b : Bool) → before item x ≡ b → b ≡ true
        cases true after = refl
        cases false neither =
            let equal = order.total (key item) (key x) neither not_before in
            let is_same : at (key item) x ≡ true = rw equal (order.reflexive (key x)) in
            absurd (false≢true (sym other ∙ is_same))

    -- a list stays ascending with an item of a new key in its place
    pub ascend-put_in :
        (item : A) (xs : List A) → ascend before xs ≡ true → has_in same key (key item) xs ≡ false →
        ascend before (put_in below key item xs) ≡ true
    ascend-put_in item [] ascending fresh = refl
    ascend-put_in item (x ∷ xs) ascending fresh =
        let parts = and_parts (list_all (before x) xs) (ascend before xs) ascending in
        let others = or_parts (at (key item) x) (has_in same key (key item) xs) fresh in
        ap (ascend before) (put_in-cons item x xs)
        ∙ cases (before x item) refl parts.0 parts.1 others.0 (ascend-put_in item xs parts.1 others.1)
      where
        cases :
            (b : Bool) → before x item ≡ b → list_all (before x) xs ≡ true → ascend before xs ≡ true →
            at (key item) x ≡ false → ascend before (put_in below key item xs) ≡ true →
            ascend before (cond b (x ∷ put_in below key item xs) (item ∷ x ∷ xs)) ≡ true
        cases true first after rest other put =
            and_from _ _ (list_all-Inserts (before x) item xs (put_in below key item xs) (Inserts-put_in item xs) after first) put
        cases false not_first after rest other put =
            let first = before-turn item x not_first other in
            let behind = list_all-weaker (before x) (before item) (λ y. order.transitive (key item) (key x) (key y) first) xs after in
            and_from _ _ (and_from _ _ first behind) (and_from _ _ after rest)
