-- The payloads that lead to a release.
use Rattle.std.proofs.Common.{◌≡◌, ℕ, ◌+◌, ◌<◌, ◌≤◌, ◌&&◌, ◌++◌, inl, inr, Bool, true, false, cond, eqb, ltb, List, [], length, get_or, map, take, drop, refl, sym, ap, ◌∙◌, arith}
use Rattle.std.specs.List.{filter, flat_map}
use Rattle.std.proofs.lemmas.Bool.{and_left, and_right, cases_lt, eq-eqb, le-ltb, lt-ltb, ne_eqb}
use Rattle.std.proofs.lemmas.Grind.{flat_map-append}
use Rattle.std.proofs.lemmas.List.{append-nil, map-append, drop_more, get_or-drop, get_or-take, length-drop, length-take-le, take-append-drop, take-take}
use Rattle.std.proofs.lemmas.List.Elements.{filter-append}
use Rattle.payload_graph.proofs.EnterLemmas.{fulls-entering, is_above, is_within, is_within-high, is_within-low}
use Rattle.payload_graph.proofs.FlatLemmas.{filter-agree, filter-filter, filter-flat_map, filter-map_same, filter-nothing, filter-same, filter-swap, flat_map-nothing, flat_map-one}
use Rattle.payload_graph.proofs.RangeLemmas.{filter-between}
use Rattle.payload_graph.proofs.ReachLemmas.{reach_of-bounds}
use Rattle.payload_graph.proofs.UpwardLemmas.{and-true}
use Rattle.payload_graph.specs.Laws.{EdgesFromAreOfGraph, EdgesIntoAreEdgesFrom}
use Rattle.payload_graph.specs.Net.{Net, edges_into, enters, full, fulls, leaves, opens, payloads_of, window}
use Rattle.payload_graph.specs.Soundness.{AreNumbered, no_door, origins_above, origins_below, reach_of}
use Rattle.payload_graph.specs.declared.door.Door.{Door}
use Rattle.payload_graph.specs.declared.edge.Edge.{Edge}

-- the full packages of a release from its origins, then the differentials that lead to it
abbrev pub entering : ℕ → List Door → List Door → List Edge → List Edge
entering to doors origins differs =
    map (λ (origin : Door). full origin.to (get_or doors to no_door)) origins
    ++ filter (enters to) differs

-- the same, with the origins in two parts
pub entering_parts :
    (to : ℕ) (doors low high : List Door) (differs : List Edge) →
    map (λ (origin : Door). full origin.to (get_or doors to no_door)) (filter (λ (origin : Door). opens origin.to (get_or doors to no_door)) low)
    ++ map (λ (origin : Door). full origin.to (get_or doors to no_door)) (filter (λ (origin : Door). opens origin.to (get_or doors to no_door)) high)
    ++ filter (enters to) differs
    ≡ entering to doors (filter (λ (origin : Door). opens origin.to (get_or doors to no_door)) (low ++ high)) differs
entering_parts to doors low high differs =
    ap (λ (es : List Edge). es ++ filter (enters to) differs)
    (sym (map-append lead (filter opened low) (filter opened high)) ∙ ap (map lead) (sym (filter-append opened low high)))
  where
    lead : Door → Edge
    lead origin = full origin.to (get_or doors to no_door)

    opened : Door → Bool
    opened origin = opens origin.to (get_or doors to no_door)

-- the full packages of one origin
abbrev fulls_at : Net → Door → List Edge
fulls_at net origin = fulls origin.to (window net origin.to)

module _ (net : Net) (to : ℕ) (numbered : AreNumbered net.doors) (within : net.target < length net.doors) (there : to < length net.doors) where
  abbrev door_to : Door
  door_to = get_or net.doors to no_door

  -- the window of the release has it
  abbrev is_lead : ℕ → Bool
  is_lead from = is_within net to numbered within there from

  abbrev leads : Door → Bool
  leads origin = is_lead origin.to

  -- it opens from the release
  abbrev opens_it : Door → Bool
  opens_it origin = opens origin.to door_to

  -- the same below the release
  abbrev reaches_it : Door → Bool
  reaches_it origin = ltb to (reach_of net.target net.doors origin.to)

  fulls-into :
      filter (enters to) (flat_map (fulls_at net) net.doors)
      ≡ map (λ (origin : Door). full origin.to door_to) (filter (λ (origin : Door). opens_it origin && leads origin) net.doors)
  fulls-into =
      filter-flat_map (enters to) (fulls_at net) net.doors
      ∙ flat_map-one (λ (origin : Door). filter (enters to) (fulls_at net origin)) (λ (origin : Door). opens_it origin && leads origin)
      (λ (origin : Door). full origin.to door_to) net.doors no_door (λ k fits.
      let own = numbered k fits in
      fulls-entering net to numbered within there (get_or net.doors k no_door).to (omega arith))

  into-parts : edges_into net to ≡ entering to net.doors (filter opens_it (filter leads net.doors)) net.differs
  into-parts =
      filter-append (enters to) (flat_map (fulls_at net) net.doors) net.differs
      ∙ ap (λ (ys : List Edge). ys ++ filter (enters to) net.differs) fulls-into
      ∙ ap (λ (from : List Door). entering to net.doors from net.differs) (sym (filter-filter opens_it leads net.doors))

  leads-below : (from : ℕ) → from ≤ net.target → is_lead from ≡ is_above net to numbered within there from
  leads-below from low = is_within-low net to numbered within there from low

  leads-above : (from : ℕ) → net.target < from → is_lead from ≡ (net.rollback && ltb to from)
  leads-above from high = is_within-high net to numbered within there from high

  -- the test of an item of a first part of the doors
  at-take :
      (cut k : ℕ) → k < cut → k < length net.doors →
      leads (get_or (take cut net.doors) k no_door) ≡ is_lead k
  at-take cut k less fits =
      ap leads (get_or-take cut net.doors k no_door less)
      ∙ ap is_lead (numbered k fits)

  reaches-take :
      (cut k : ℕ) → k < cut → k < length net.doors →
      reaches_it (get_or (take cut net.doors) k no_door) ≡ ltb to (reach_of net.target net.doors k)
  reaches-take cut k less fits =
      ap reaches_it (get_or-take cut net.doors k no_door less)
      ∙ ap (λ n. ltb to (reach_of net.target net.doors n)) (numbered k fits)

  -- above both, each release is an origin if the track rolls back
  upper :
      (cut : ℕ) → net.target < cut → to < cut → cut ≤ length net.doors →
      filter leads (drop cut net.doors) ≡ cond net.rollback (drop cut net.doors) []
  upper cut above_target above most =
      let size = length-drop cut net.doors in
      filter-agree leads (λ (origin : Door). net.rollback) (drop cut net.doors) no_door (λ k fits.
      ap leads (get_or-drop cut net.doors k no_door)
      ∙ ap is_lead (numbered (cut + k) (omega arith))
      ∙ leads-above (cut + k) (omega arith)
      ∙ ap (λ b. net.rollback && b) (lt-ltb to (cut + k) (omega arith))
      ∙ and-true net.rollback)
      ∙ filter-same net.rollback (drop cut net.doors)

  -- up to the target, the releases below it whose windows reach it
  lower-low :
      to ≤ net.target →
      filter leads (take (net.target + 1) net.doors) ≡ filter reaches_it (take to net.doors)
  lower-low low =
      let size = length-take-le (net.target + 1) net.doors (omega arith) in
      filter-between leads reaches_it no_door (take (net.target + 1) net.doors) 0 to (record {
        below = λ k fits less. absurd (omega arith);
        above = λ k fits more.
            at-take (net.target + 1) k (omega arith) (omega arith)
            ∙ leads-below k (omega arith)
            ∙ and_left _ _ (le-ltb k to more);
        inside = λ k fits less more.
            at-take (net.target + 1) k (omega arith) (omega arith)
            ∙ leads-below k (omega arith)
            ∙ ap (λ b. b && ltb to (reach_of net.target net.doors k)) (lt-ltb k to more)
            ∙ sym (reaches-take (net.target + 1) k (omega arith) (omega arith));
      })
      ∙ ap (filter reaches_it) (take-take to (net.target + 1) net.doors (omega arith))

  -- none below a release above the target
  lower-high : net.target < to → filter leads (take (to + 1) net.doors) ≡ []
  lower-high high =
      let size = length-take-le (to + 1) net.doors (omega arith) in
      filter-nothing leads (take (to + 1) net.doors) no_door (λ k fits.
      at-take (to + 1) k (omega arith) (omega arith)
      ∙ elim (cases_lt net.target k) [
        | inl past ↦ leads-above k past ∙ and_right _ _ (le-ltb to k (omega arith))
        | inr low ↦
            let bounds = reach_of-bounds net.target net.doors k low within in
            leads-below k low ∙ and_right _ _ (le-ltb to (reach_of net.target net.doors k) (omega arith))
      ])

  parts :
      (cut : ℕ) →
      filter leads net.doors ≡ filter leads (take cut net.doors) ++ filter leads (drop cut net.doors)
  parts cut =
      sym (ap (filter leads) (take-append-drop cut net.doors))
      ∙ filter-append leads (take cut net.doors) (drop cut net.doors)

  -- the origins, with the test whether the release is above the target
  abbrev origins_if : Bool → List Door
  origins_if b =
      cond b [] (filter reaches_it (take to net.doors))
      ++ cond net.rollback (drop (cond b (to + 1) (net.target + 1)) net.doors) []

  abbrev origins : List Door
  origins =
      origins_below net.target net.doors to
      ++ cond net.rollback (origins_above net.target net.doors to) []

  origins-leading : filter leads net.doors ≡ origins
  origins-leading = elim (cases_lt net.target to) [
    | inl high ↦
        let over = lt-ltb net.target to high in
        parts (to + 1)
        ∙ ap (λ (ys : List Door). ys ++ filter leads (drop (to + 1) net.doors)) (lower-high high)
        ∙ upper (to + 1) (omega arith) (omega arith) (omega arith)
        ∙ sym (ap origins_if over)
    | inr low ↦
        let under = le-ltb net.target to low in
        parts (net.target + 1)
        ∙ ap (λ (ys : List Door). ys ++ filter leads (drop (net.target + 1) net.doors)) (lower-low low)
        ∙ ap (λ (ys : List Door). filter reaches_it (take to net.doors) ++ ys)
        (upper (net.target + 1) (omega arith) (omega arith) (omega arith))
        ∙ sym (ap origins_if under)
  ]

  -- the full packages of a release come from those of its origins that its door opens from
  pub edges_into-origins :
      edges_into net to ≡ entering to net.doors (filter opens_it origins) net.differs
  edges_into-origins =
      into-parts
      ∙ ap (λ (from : List Door). entering to net.doors (filter opens_it from) net.differs) origins-leading

-- those of them that leave a release
abbrev fulls_of : Net → ℕ → Door → List Edge
fulls_of net from origin = filter (leaves from) (fulls_at net origin)

-- those of one origin among all full packages
fulls-leaving :
    (net : Net) (from : ℕ) → AreNumbered net.doors → from < length net.doors →
    filter (leaves from) (flat_map (fulls_at net) net.doors) ≡ fulls from (window net from)
fulls-leaving net from numbered there =
    filter-flat_map (leaves from) (fulls_at net) net.doors
    ∙ ap (flat_map (fulls_of net from)) (sym (take-append-drop from net.doors))
    ∙ flat_map-append (fulls_of net from) (take from net.doors) (drop from net.doors)
    ∙ ap (λ (ys : List Edge). ys ++ flat_map (fulls_of net from) (drop from net.doors)) before
    ∙ ap (flat_map (fulls_of net from)) (drop_more net.doors from no_door there)
    ∙ ap (λ (ys : List Edge). fulls_of net from (get_or net.doors from no_door) ++ ys) behind
    ∙ append-nil (fulls_of net from (get_or net.doors from no_door))
    ∙ here
  where
    own-at :
        (n : ℕ) (b : Bool) → eqb from n ≡ b →
        filter (leaves from) (fulls n (window net n)) ≡ cond b (fulls n (window net n)) []
    own-at n b is =
        filter-map_same (leaves from) (full n) b (λ door. is) (filter (opens n) (window net n))

    nothing : (k : ℕ) → k < length net.doors → (from ≡ k → ⊥) → fulls_of net from (get_or net.doors k no_door) ≡ []
    nothing k fits other =
        ap (λ n. filter (leaves from) (fulls n (window net n))) (numbered k fits)
        ∙ own-at k false (ne_eqb from k other)

    before : flat_map (fulls_of net from) (take from net.doors) ≡ []
    before =
        let size = length-take-le from net.doors (omega arith) in
        flat_map-nothing (fulls_of net from) (take from net.doors) no_door (λ k fits.
        ap (fulls_of net from) (get_or-take from net.doors k no_door (omega arith))
        ∙ nothing k (omega arith) (λ same. omega arith))

    behind : flat_map (fulls_of net from) (drop (from + 1) net.doors) ≡ []
    behind =
        let size = length-drop (from + 1) net.doors in
        flat_map-nothing (fulls_of net from) (drop (from + 1) net.doors) no_door (λ k fits.
        ap (fulls_of net from) (get_or-drop (from + 1) net.doors k no_door)
        ∙ nothing (from + 1 + k) (omega arith) (λ same. omega arith))

    here : fulls_of net from (get_or net.doors from no_door) ≡ fulls from (window net from)
    here =
        ap (λ n. filter (leaves from) (fulls n (window net n))) (numbered from there)
        ∙ own-at from true (eq-eqb from from refl)

pub edges_from_are_of_graph : EdgesFromAreOfGraph
edges_from_are_of_graph net from numbered there =
    filter-append (leaves from) (flat_map (fulls_at net) net.doors) net.differs
    ∙ ap (λ (ys : List Edge). ys ++ filter (leaves from) net.differs) (fulls-leaving net from numbered there)

pub edges_into_are_edges_from : EdgesIntoAreEdgesFrom
edges_into_are_edges_from net from to numbered there =
    filter-swap (leaves from) (enters to) (payloads_of net)
    ∙ ap (filter (enters to)) (edges_from_are_of_graph net from numbered there)
