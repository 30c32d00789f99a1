-- The best full package to the releases up to one, by that of the release before it and those that open there.
use Rattle.std.proofs.Common.{◌≡◌, ℕ, ◌+◌, ◌<◌, ◌⊎◌, ◌&&◌, ◌||◌, inl, inr, not, Bool, true, false, cond, List, [], ◌∷◌, ◌++◌, get_or, length, map, take, eqb, leb, ltb, refl, sym, ap, ◌∙◌, subst, arith}
use Rattle.std.specs.List.{All, filter, list_all, list_any}
use Rattle.std.proofs.lemmas.Bool.{and_from, and_parts, cases_eq, false≢true, le-leb, leb-true, ltb-true}
use Rattle.std.proofs.lemmas.List.{append-nil, get_or-take, get_or_default, length-take-le}
use Rattle.std.proofs.lemmas.List.Elements.{All-filter, All-map}
use Rattle.std.proofs.lemmas.List.Folds.{Any-from_list_any, list_all-append, list_all-map, list_any-append, list_any_at}
use Rattle.std.proofs.lemmas.List.Sums.{AllPass-from_list_all, list_all-from_AllPass}
use Rattle.catalogue.specs.Forms.{is_size}
use Rattle.payload_graph.specs.Net.{Net, full, fulls, opens}
use Rattle.payload_graph.specs.Soundness.{AreNumbered, is_floor_of, no_door, openings}
use Rattle.payload_graph.specs.declared.door.Door.{Door}
use Rattle.payload_graph.specs.declared.edge.Edge.{Edge}
use Rattle.price_cert.specs.Best.{IsBest, improved, is_no_better, lower, names_one, taken}
use Rattle.price_cert.specs.Rules.{is_next}
use Rattle.price_cert.specs.declared.row.Row.{Row}
use Rattle.price_cert.specs.declared.row.Row.TheVariants.{Nothing, End, Price}
use Rattle.price_cert.proofs.BestLemmas.{IsBest-back, IsBest-map, list_any-map}
use Rattle.price_cert.proofs.StepLemmas.{IsBest-lower, IsBest-take, opens-both}

-- tests of what a filter keeps
all-filter : {A : Type 0} (p r : A → Bool) (xs : List A) → list_all p (filter r xs) ≡ list_all (λ x. not (r x) || p x) xs
all-filter p r [] = refl
all-filter {A} p r (x ∷ xs) = cases (r x) (all-filter p r xs)
  where
    cases :
        (b : Bool) → list_all p (filter r xs) ≡ list_all (λ y. not (r y) || p y) xs →
        list_all p (cond b (x ∷ filter r xs) (filter r xs)) ≡ ((not b || p x) && list_all (λ y. not (r y) || p y) xs)
    cases true rest = ap (λ b. p x && b) rest
    cases false rest = rest

any-filter : {A : Type 0} (p r : A → Bool) (xs : List A) → list_any p (filter r xs) ≡ list_any (λ x. r x && p x) xs
any-filter p r [] = refl
any-filter {A} p r (x ∷ xs) = cases (r x) (any-filter p r xs)
  where
    cases :
        (b : Bool) → list_any p (filter r xs) ≡ list_any (λ y. r y && p y) xs →
        list_any p (cond b (x ∷ filter r xs) (filter r xs)) ≡ ((b && p x) || list_any (λ y. r y && p y) xs)
    cases true rest = ap (λ b. p x || b) rest
    cases false rest = rest

implied : (r p : Bool) → (not r || p) ≡ true → r ≡ true → p ≡ true
implied true p is kept = is
implied false p is kept = absurd (false≢true kept)

implies : (r p : Bool) → (r ≡ true → p ≡ true) → (not r || p) ≡ true
implies true p follows = follows refl
implies false p follows = refl

or_cases : (a b : Bool) → (a || b) ≡ true → (a ≡ true) ⊎ (b ≡ true)
or_cases true b is = inl refl
or_cases false b is = inr is

or-false : (a : Bool) → (a || false) ≡ true → a ≡ true
or-false true is = refl
or-false false is = is

-- a door's full package after other payloads
pub IsBest-taken :
    (rows : List Row) (edges : List Edge) (from : ℕ) (door : Door) (row : Row) →
    IsBest rows edges row → IsBest rows (edges ++ fulls from (door ∷ [])) (taken rows row from door)
IsBest-taken rows edges from door row best = cases (opens from door)
  where
    cases : (b : Bool) → IsBest rows (edges ++ map (full from) (cond b (door ∷ []) [])) (cond b (improved rows row (full from door)) row)
    cases true = IsBest-back rows edges (full from door) row best
    cases false = subst (λ (es : List Edge). IsBest rows es row) (sym (append-nil edges)) best

module _ (doors : List Door) (from : ℕ) (numbered : AreNumbered doors) (there : from < length doors) where
  abbrev pub next : ℕ
  next = from + 1

  abbrev pub door : ℕ → Door
  door k = get_or doors k no_door

  -- the full packages of the next release through the doors of the release before it
  abbrev pub kept : List Edge
  kept = map (full next) (filter (opens from) (take from doors))

  -- those through the release before it
  abbrev pub own : List Edge
  own = fulls next (door from ∷ [])

  length-next : length (take next doors) ≡ next
  length-next = length-take-le next doors (omega arith)

  length-before : length (take from doors) ≡ from
  length-before = length-take-le from doors (omega arith)

  numbered_at : (k : ℕ) → k < length doors → (door k).to ≡ k
  numbered_at k within = numbered k within

  -- a lower door that opens from the next release alone opens there
  opened : (k : ℕ) → k < from → opens from (door k) ≡ false → opens next (door k) ≡ true → is_floor_of next (door k) ≡ true
  opened k below shut open_next = cases (is_floor_of next (door k)) refl
    where
      cases : (b : Bool) → is_floor_of next (door k) ≡ b → is_floor_of next (door k) ≡ true
      cases true is = is
      cases false is =
          let at = numbered_at k (omega arith) in
          absurd (false≢true (sym shut ∙ opens-both from (door k) (omega (arith, at)) is ∙ open_next))

  -- a door that opens from the release before opens from the next one
  opens-next : (k : ℕ) → opens from (door k) ≡ true → opens next (door k) ≡ true
  opens-next k is =
      let parts = and_parts (leb (door k).floor from) (door k).offered is in
      and_from (leb (door k).floor next) (door k).offered
      (le-leb (door k).floor next (let low = leb-true (door k).floor from parts.0 in omega (arith, low))) parts.1

  module _ (q : Edge → Bool) where
    abbrev test : Door → Bool
    test d = q (full next d)

    -- what all those payloads pass, all full packages of the next release pass
    all-opened : list_all q ((kept ++ own) ++ openings doors next) ≡ true → list_all q (fulls next (take next doors)) ≡ true
    all-opened all =
        list_all-map q (full next) (filter (opens next) (take next doors))
        ∙ all-filter test (opens next) (take next doors)
        ∙ list_all-from_AllPass (λ d. not (opens next d) || test d) (take next doors) (λ k d within.
        let low : k < next = omega (arith, length-next, within) in
        let at : get_or (take next doors) k d ≡ door k =
        get_or-take next doors k d low ∙ get_or_default doors k d no_door (omega (arith, low)) in
        ap (λ (e : Door). not (opens next e) || test e) at
        ∙ implies (opens next (door k)) (test (door k)) (by_place k low (cases_eq k from)))
      where
        both : (list_all q (kept ++ own) ≡ true) × (list_all q (openings doors next) ≡ true)
        both = and_parts (list_all q (kept ++ own)) (list_all q (openings doors next)) (sym (list_all-append q (kept ++ own) (openings doors next)) ∙ all)

        inner : (list_all q kept ≡ true) × (list_all q own ≡ true)
        inner = and_parts (list_all q kept) (list_all q own) (sym (list_all-append q kept own) ∙ both.0)

        late : list_all (λ d. not (is_floor_of next d) || (not (opens next d) || test d)) doors ≡ true
        late =
            sym (all-filter (λ d. not (opens next d) || test d) (is_floor_of next) doors)
            ∙ sym (all-filter test (opens next) (filter (is_floor_of next) doors))
            ∙ sym (list_all-map q (full next) (filter (opens next) (filter (is_floor_of next) doors)))
            ∙ both.1

        low_doors : list_all (λ d. not (opens from d) || test d) (take from doors) ≡ true
        low_doors =
            sym (all-filter test (opens from) (take from doors))
            ∙ sym (list_all-map q (full next) (filter (opens from) (take from doors)))
            ∙ inner.0

        own_door : list_all (λ d. not (opens next d) || test d) (door from ∷ []) ≡ true
        own_door =
            sym (all-filter test (opens next) (door from ∷ []))
            ∙ sym (list_all-map q (full next) (filter (opens next) (door from ∷ [])))
            ∙ inner.1

        by_before : (k : ℕ) → k < from → (b : Bool) → opens from (door k) ≡ b → opens next (door k) ≡ true → test (door k) ≡ true
        by_before k below true is open_next =
            let each = AllPass-from_list_all (λ d. not (opens from d) || test d) (take from doors) low_doors k no_door (omega (arith, length-before)) in
            let at = get_or-take from doors k no_door below in
            implied (opens from (door k)) (test (door k)) (ap (λ (e : Door). not (opens from e) || test e) (sym at) ∙ each) is
        by_before k below false is open_next =
            let each = AllPass-from_list_all (λ d. not (is_floor_of next d) || (not (opens next d) || test d)) doors late k no_door (omega arith) in
            implied (opens next (door k)) (test (door k))
            (implied (is_floor_of next (door k)) (not (opens next (door k)) || test (door k)) each (opened k below is open_next)) open_next

        by_place : (k : ℕ) → k < next → (k ≡ from) ⊎ ¬ (k ≡ from) → opens next (door k) ≡ true → test (door k) ≡ true
        by_place k low (inl same) open_next =
            let each = AllPass-from_list_all (λ d. not (opens next d) || test d) (door from ∷ []) own_door 0 no_door (omega arith) in
            implied (opens next (door k)) (test (door k)) (ap (λ n. not (opens next (door n)) || test (door n)) same ∙ each) open_next
        by_place k low (inr other) open_next = by_before k (omega (arith, other, low)) (opens from (door k)) refl open_next

    -- what one of those payloads passes, one of the full packages of the next release passes
    any-opened : list_any q ((kept ++ own) ++ openings doors next) ≡ true → list_any q (fulls next (take next doors)) ≡ true
    any-opened some = elim (or_cases (list_any q (kept ++ own)) (list_any q (openings doors next)) (sym (list_any-append q (kept ++ own) (openings doors next)) ∙ some)) [
      | inl first ↦ elim (or_cases (list_any q kept) (list_any q own) (sym (list_any-append q kept own) ∙ first)) [
        | inl low ↦ by_before low
        | inr last ↦ by_own last
      ]
      | inr late ↦ by_late late
    ]
      where
        found : (k : ℕ) → k < next → opens next (door k) ≡ true → test (door k) ≡ true → list_any q (fulls next (take next doors)) ≡ true
        found k low open_next passes =
            list_any-map q (full next) (filter (opens next) (take next doors))
            ∙ any-filter test (opens next) (take next doors)
            ∙ list_any_at (λ d. opens next d && test d) (take next doors) k no_door (omega (arith, length-next))
            (ap (λ (e : Door). opens next e && test e) (get_or-take next doors k no_door low)
            ∙ and_from (opens next (door k)) (test (door k)) open_next passes)

        by_before : list_any q kept ≡ true → list_any q (fulls next (take next doors)) ≡ true
        by_before low =
            let any = Any-from_list_any (λ d. opens from d && test d) (take from doors)
            (sym (any-filter test (opens from) (take from doors)) ∙ sym (list_any-map q (full next) (filter (opens from) (take from doors))) ∙ low) in
            let k = any.0 in
            let within = any.2 in
            let below : k < from = omega (arith, length-before, within) in
            let at : any.1 ≡ door k =
            sym any.3 ∙ get_or-take from doors k any.1 below ∙ get_or_default doors k any.1 no_door (omega (arith, below)) in
            let parts = and_parts (opens from (door k)) (test (door k)) (ap (λ (e : Door). opens from e && test e) (sym at) ∙ any.4) in
            found k (omega (arith, below)) (opens-next k parts.0) parts.1

        by_own : list_any q own ≡ true → list_any q (fulls next (take next doors)) ≡ true
        by_own last =
            let is : ((opens next (door from) && test (door from)) || false) ≡ true =
            sym (any-filter test (opens next) (door from ∷ [])) ∙ sym (list_any-map q (full next) (filter (opens next) (door from ∷ []))) ∙ last in
            let parts = and_parts (opens next (door from)) (test (door from)) (or-false (opens next (door from) && test (door from)) is) in
            found from (omega arith) parts.0 parts.1

        by_late : list_any q (openings doors next) ≡ true → list_any q (fulls next (take next doors)) ≡ true
        by_late late =
            let any = Any-from_list_any (λ d. is_floor_of next d && (opens next d && test d)) doors
            (sym (any-filter (λ d. opens next d && test d) (is_floor_of next) doors)
            ∙ sym (any-filter test (opens next) (filter (is_floor_of next) doors))
            ∙ sym (list_any-map q (full next) (filter (opens next) (filter (is_floor_of next) doors))) ∙ late) in
            let k = any.0 in
            let within = any.2 in
            let at : any.1 ≡ door k = sym any.3 ∙ get_or_default doors k any.1 no_door within in
            let floor = and_parts (is_floor_of next (door k)) (opens next (door k) && test (door k))
            (ap (λ (e : Door). is_floor_of next e && (opens next e && test e)) (sym at) ∙ any.4) in
            let both = and_parts (opens next (door k)) (test (door k)) floor.1 in
            let below = ltb-true (door k).to next (and_parts (ltb (door k).to next) (eqb next (door k).floor) floor.0).0 in
            let own = numbered_at k within in
            found k (omega (arith, below, own)) both.0 both.1

  -- so the best of those payloads is the best full package of the next release
  pub IsBest-opened :
      (rows : List Row) (row : Row) → IsBest rows ((kept ++ own) ++ openings doors next) row → IsBest rows (fulls next (take next doors)) row
  IsBest-opened rows row best = record {
    behind = all-opened (is_no_better rows row) best.behind;
    names = named row best.names;
  }
    where
      named : (row : Row) → names_one rows ((kept ++ own) ++ openings doors next) row ≡ true → names_one rows (fulls next (take next doors)) row ≡ true
      named Nothing names = refl
      named End names = names
      named (Price price kind to) names = any-opened (is_next rows price kind to) names

  -- the best payload before them, by the best full package of the release before
  pub IsBest-kept :
      (rows : List Row) (row : Row) → IsBest rows (fulls from (take from doors)) row → IsBest rows kept row
  IsBest-kept rows row best = IsBest-map rows (filter (opens from) (take from doors)) from next row best

-- the full packages that open at an index have valid sizes
pub All-sized-openings :
    (doors : List Door) (index : ℕ) → All (λ (door : Door). is_size door.bytes ≡ true) doors →
    All (λ (edge : Edge). is_size edge.bytes ≡ true) (openings doors index)
All-sized-openings doors index sized =
    let some = All-filter (is_floor_of index) (λ (door : Door). is_size door.bytes ≡ true) doors sized in
    let open_ones = All-filter (opens index) (λ (door : Door). is_size door.bytes ≡ true) (filter (is_floor_of index) doors) some in
    All-map (λ (edge : Edge). is_size edge.bytes ≡ true) (full index) (filter (opens index) (filter (is_floor_of index) doors)) open_ones

-- on a track that rolls back, the best full package of the next release
pub IsBest-above :
    (net : Net) (rows : List Row) (from : ℕ) (doors : List Door) (best next_best result : Row) →
    AreNumbered net.doors → from < length net.doors → doors ≡ net.doors → net.rollback ≡ true →
    next_best ≡ taken rows best (from + 1) (get_or doors from no_door) →
    ((edges : List Edge) → IsBest rows edges next_best → IsBest rows (edges ++ openings net.doors (from + 1)) result) →
    IsBest rows (fulls from (lower net from)) best →
    IsBest rows (fulls (from + 1) (lower net (from + 1))) result
IsBest-above net rows from doors best next_best result numbered there same rolls is opens_more known =
    let low = IsBest-kept net.doors from numbered there rows best (IsBest-take net rows from best rolls known) in
    let taken_is : next_best ≡ taken rows best (from + 1) (get_or net.doors from no_door) =
    is ∙ ap (λ (ds : List Door). taken rows best (from + 1) (get_or ds from no_door)) same in
    let one = IsBest-taken rows (map (full (from + 1)) (filter (opens from) (take from net.doors))) (from + 1) (get_or net.doors from no_door) best low in
    let two = subst (λ (row : Row). IsBest rows (map (full (from + 1)) (filter (opens from) (take from net.doors)) ++ fulls (from + 1) (get_or net.doors from no_door ∷ [])) row) (sym taken_is) one in
    let three = opens_more (map (full (from + 1)) (filter (opens from) (take from net.doors)) ++ fulls (from + 1) (get_or net.doors from no_door ∷ [])) two in
    IsBest-lower net rows (from + 1) result rolls (IsBest-opened net.doors from numbered there rows result three)
