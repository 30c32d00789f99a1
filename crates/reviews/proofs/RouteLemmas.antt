-- Which releases have a way of full packages to the target, by those that they lead to.
use Rattle.std.proofs.Common.{◌≡◌, ℕ, ◌+◌, ◌-◌, ◌<◌, ◌≤◌, inl, inr, Bool, true, false, cond, drop, take, List, [], ◌∷◌, eqb, length, get_or, set, refl, sym, ap, ◌∙◌, subst, arith, get_or-set_other, get_or-set_same}
use Rattle.std.specs.List.{All, Contains, list_any}
use Rattle.std.proofs.lemmas.Bool.{cases_eq, eqb-true, eq-eqb, false≢true, le-ltb}
use Rattle.std.proofs.lemmas.List.Elements.{All-contains, All-weaker}
use Rattle.std.proofs.lemmas.List.Folds.{Any-from_list_any, list_any_at}
use Rattle.payload_graph.specs.Laws.{FullsLeadNearer}
use Rattle.std.proofs.lemmas.List.{drop-take}
use Rattle.payload_graph.specs.Net.{Net, between, full, fulls, opens, to_stone, window}
use Rattle.payload_graph.specs.Soundness.{AreNumbered, LeadsNearer}
use Rattle.payload_graph.specs.declared.edge.Edge.{Edge}
use Rattle.reviews.proofs.ListLemmas.{list_any-filtered}
use Rattle.reviews.specs.Routes.{AreRouted, IsRoute, IsRouted, flag_at, leads, leads_to_flag}

-- the full packages from a release
abbrev edges : Net → ℕ → List Edge
edges net from = fulls from (window net from)

abbrev leads_to : ℕ → Edge → Bool
leads_to to edge = eqb edge.to to

abbrev is_flagged : List Bool → Edge → Bool
is_flagged flags edge = flag_at flags edge.to

leads-edges : (net : Net) (from to : ℕ) → leads net from to ≡ list_any (leads_to to) (edges net from)
leads-edges net from to = list_any-filtered (full from) (opens from) (leads_to to) (window net from)

leads_to_flag-edges :
    (net : Net) (flags : List Bool) (from : ℕ) →
    list_any (leads_to_flag flags from) (window net from) ≡ list_any (is_flagged flags) (edges net from)
leads_to_flag-edges net flags from = list_any-filtered (full from) (opens from) (is_flagged flags) (window net from)

-- a release's flag says whether it has a way if the flags of those that it leads to do
abbrev AreKnown : Net → List Bool → ℕ → Type 0
AreKnown net flags from = All (λ (edge : Edge). IsRouted net edge.to (flag_at flags edge.to)) (edges net from)

module _ (net : Net) (flags : List Bool) (from : ℕ) (apart : from ≡ net.target → ⊥) (known : AreKnown net flags from) where
  known_of : (edge : Edge) → Contains (edges net from) edge → (b : Bool) → flag_at flags edge.to ≡ b → IsRouted net edge.to b
  known_of edge inside b is =
      subst (IsRouted net edge.to) is
      (All-contains (λ (e : Edge). IsRouted net e.to (flag_at flags e.to)) (edges net from) edge known inside)

  has_route : list_any (is_flagged flags) (edges net from) ≡ true → IsRouted net from true
  has_route found =
      let any = Any-from_list_any (is_flagged flags) (edges net from) found in
      let edge = any.1 in
      let rest = known_of edge (any.0, any.2, any.3) true any.4 in
      let here : leads_to edge.to (get_or (edges net from) any.0 edge) ≡ true =
      subst (λ (e : Edge). leads_to edge.to e ≡ true) (sym any.3) (eq-eqb edge.to edge.to refl) in
      let step = leads-edges net from edge.to ∙ list_any_at (leads_to edge.to) (edges net from) any.0 edge any.2 here in
      (edge.to ∷ rest.0, (step, rest.1))

  no_route :
      list_any (is_flagged flags) (edges net from) ≡ false → (route : List ℕ) → IsRoute net from route → ⊥
  no_route none [] at = apart at
  no_route none (to ∷ more) (step, rest) =
      let any = Any-from_list_any (leads_to to) (edges net from) (sym (leads-edges net from to) ∙ step) in
      let edge = any.1 in
      let same = eqb-true edge.to to any.4 in
      by_flag any.0 edge any.2 any.3 (subst (λ n. IsRoute net n more) (sym same) rest) (flag_at flags edge.to) refl
    where
      by_flag :
          (k : ℕ) (edge : Edge) → k < length (edges net from) → get_or (edges net from) k edge ≡ edge →
          IsRoute net edge.to more → (b : Bool) → flag_at flags edge.to ≡ b → ⊥
      by_flag k edge within at route true is =
          false≢true (sym none ∙ list_any_at (is_flagged flags) (edges net from) k edge within (subst (λ (e : Edge). is_flagged flags e ≡ true) (sym at) is))
      by_flag k edge within at route false is = known_of edge (k, within, at) false is more route

  pub IsRouted-leads_to_flag : IsRouted net from (list_any (leads_to_flag flags from) (window net from))
  IsRouted-leads_to_flag = subst (IsRouted net from) (sym (leads_to_flag-edges net flags from)) (cases (list_any (is_flagged flags) (edges net from)) refl)
    where
      cases : (b : Bool) → list_any (is_flagged flags) (edges net from) ≡ b → IsRouted net from b
      cases true is = has_route is
      cases false is = λ route at. no_route is route at

-- the flags of all releases nearer the target are known
AreKnown-nearer :
    FullsLeadNearer → (net : Net) (flags : List Bool) (from low high : ℕ) →
    AreNumbered net.doors → net.target < length net.doors → from < length net.doors → AreRouted net flags low high →
    ((to : ℕ) → LeadsNearer net.target from to → (low ≤ to) × (to < high)) →
    AreKnown net flags from
AreKnown-nearer nearer net flags from low high numbered within there routed covers =
    All-weaker (λ (edge : Edge). LeadsNearer net.target from edge.to) (λ (edge : Edge). IsRouted net edge.to (flag_at flags edge.to))
    (λ edge near. let inside = covers edge.to near in routed edge.to inside.0 inside.1) (edges net from)
    (nearer net from numbered within there)

module _ (nearer : FullsLeadNearer) (net : Net) (flags : List Bool) (from : ℕ) (numbered : AreNumbered net.doors) (within : net.target < length net.doors) (sized : length flags ≡ length net.doors) where
  abbrev next : List Bool
  next = set flags from (list_any (leads_to_flag flags from) (window net from))

  -- the flag of the release below flagged ones
  pub AreRouted-below : from < net.target → AreRouted net flags (from + 1) (net.target + 1) → AreRouted net next from (net.target + 1)
  AreRouted-below below routed index low high = elim (cases_eq index from) [
    | inl same ↦
        subst (λ n. IsRouted net n (flag_at next n)) (sym same)
        (subst (IsRouted net from) (sym (get_or-set_same flags from (list_any (leads_to_flag flags from) (window net from)) false (omega arith)))
        (IsRouted-leads_to_flag net flags from (λ at. absurd (omega arith))
        (AreKnown-nearer nearer net flags from (from + 1) (net.target + 1) numbered within (omega arith) routed covers)))
    | inr apart ↦
        subst (IsRouted net index) (sym (get_or-set_other flags from index (list_any (leads_to_flag flags from) (window net from)) false apart))
        (routed index (omega arith) high)
  ]
    where
      covers : (to : ℕ) → LeadsNearer net.target from to → (from + 1 ≤ to) × (to < net.target + 1)
      covers to (inl up) = let more = up.0 in let less = up.1 in (omega arith, omega arith)
      covers to (inr down) = absurd (let above = down.0 in omega arith)

  -- the flag of the release above flagged ones
  pub AreRouted-above :
      net.target < from → from < length net.doors → AreRouted net flags 0 from → AreRouted net next 0 (from + 1)
  AreRouted-above above there routed index low high = elim (cases_eq index from) [
    | inl same ↦
        subst (λ n. IsRouted net n (flag_at next n)) (sym same)
        (subst (IsRouted net from) (sym (get_or-set_same flags from (list_any (leads_to_flag flags from) (window net from)) false (omega arith)))
        (IsRouted-leads_to_flag net flags from (λ at. absurd (omega arith))
        (AreKnown-nearer nearer net flags from 0 from numbered within there routed covers)))
    | inr apart ↦
        subst (IsRouted net index) (sym (get_or-set_other flags from index (list_any (leads_to_flag flags from) (window net from)) false apart))
        (routed index low (omega arith))
  ]
    where
      covers : (to : ℕ) → LeadsNearer net.target from to → (0 ≤ to) × (to < from)
      covers to (inl up) = let less = up.1 in (omega arith, omega arith)
      covers to (inr down) = let less = down.1 in (omega arith, less)

-- a window at or below the target is a slice of the doors, up to the first stone
pub window-slice :
    (net : Net) (from : ℕ) → from ≤ net.target →
    window net from ≡ to_stone (take (net.target + 1 - (from + 1)) (drop (from + 1) net.doors))
window-slice net from below =
    let high : from + 1 + (net.target + 1 - (from + 1)) ≡ net.target + 1 = omega arith in
    ap (λ b. cond b (cond net.rollback (take from net.doors) []) (to_stone (between (from + 1) (net.target + 1) net.doors))) (le-ltb net.target from below)
    ∙ ap (λ n. to_stone (drop (from + 1) (take n net.doors))) (sym high)
    ∙ ap to_stone (drop-take (from + 1) (net.target + 1 - (from + 1)) net.doors)
