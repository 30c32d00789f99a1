-- Each door of a window is nearer the target.
use Rattle.std.proofs.Common.{◌≡◌, ℕ, ◌+◌, ◌<◌, ◌≤◌, inl, inr, Bool, true, false, cond, List, [], length, get_or, take, sym, ap, ◌∙◌, subst, arith}
use Rattle.std.specs.List.{All, filter}
use Rattle.std.proofs.lemmas.Bool.{cases_lt, eqb-true, le-ltb, lt-ltb}
use Rattle.std.proofs.lemmas.List.{get_or-drop, get_or-take}
use Rattle.std.proofs.lemmas.List.Elements.{All-append, All-filter, All-from_get_or, All-map, All-nil, filter_passes}
use Rattle.payload_graph.proofs.ReachLemmas.{between-reach, length-between, reach_of-bounds}
use Rattle.payload_graph.specs.Laws.{EdgesLeadNearer, FullsLeadNearer}
use Rattle.payload_graph.specs.Net.{Net, between, full, fulls, leaves, opens, to_stone, window}
use Rattle.payload_graph.specs.Soundness.{AreNumbered, IsNearing, LeadsNearer, no_door, reach_of}
use Rattle.payload_graph.specs.declared.door.Door.{Door}
use Rattle.payload_graph.specs.declared.edge.Edge.{Edge}

-- what holds of each item between two indexes holds of all
pub All-between :
    (P : Door → Type 0) (doors : List Door) (low high : ℕ) →
    high ≤ length doors →
    ((k : ℕ) → low ≤ k → k < high → P (get_or doors k no_door)) →
    All P (between low high doors)
All-between P doors low high within each =
    All-from_get_or P (between low high doors) no_door (λ k reached.
    let size = length-between doors low high within in
    let at = get_or-drop low (take high doors) k no_door ∙ get_or-take high doors (low + k) no_door (omega arith) in
    subst P (sym at) (each (low + k) (omega arith) (omega arith)))

-- a window above the target
pub window-above :
    (net : Net) (from : ℕ) → net.target < from →
    window net from ≡ cond net.rollback (take from net.doors) []
window-above net from above =
    ap (λ b. cond b (cond net.rollback (take from net.doors) []) (to_stone (between (from + 1) (net.target + 1) net.doors)))
    (lt-ltb net.target from above)

-- a window at or below the target
pub window-below :
    (net : Net) (from : ℕ) → from ≤ net.target → net.target < length net.doors →
    window net from ≡ between (from + 1) (reach_of net.target net.doors from) net.doors
window-below net from below within =
    ap (λ b. cond b (cond net.rollback (take from net.doors) []) (to_stone (between (from + 1) (net.target + 1) net.doors)))
    (le-ltb net.target from below)
    ∙ sym (between-reach net.target net.doors from below within)

abbrev IsDoorNearer : Net → ℕ → Door → Type 0
IsDoorNearer net from door = LeadsNearer net.target from door.to

All-window :
    (net : Net) (from : ℕ) →
    AreNumbered net.doors → net.target < length net.doors → from < length net.doors →
    All (IsDoorNearer net from) (window net from)
All-window net from numbered within there = elim (cases_lt net.target from) [
  | inl above ↦
      subst (All (IsDoorNearer net from)) (sym (window-above net from above)) (down net.rollback above)
  | inr below ↦
      subst (All (IsDoorNearer net from)) (sym (window-below net from below within)) (up below)
]
  where
    down : (b : Bool) → net.target < from → All (IsDoorNearer net from) (cond b (take from net.doors) [])
    down true above =
        All-between (IsDoorNearer net from) net.doors 0 from (omega arith) (λ k low high.
        subst (LeadsNearer net.target from) (sym (numbered k (omega arith))) (inr (above, high)))
    down false above = All-nil (IsDoorNearer net from)

    up : from ≤ net.target → All (IsDoorNearer net from) (between (from + 1) (reach_of net.target net.doors from) net.doors)
    up below =
        let bounds = reach_of-bounds net.target net.doors from below within in
        All-between (IsDoorNearer net from) net.doors (from + 1) (reach_of net.target net.doors from) (omega arith) (λ k low high.
        subst (LeadsNearer net.target from) (sym (numbered k (omega arith))) (inl ((omega arith, omega arith))))

pub fulls_lead_nearer : FullsLeadNearer
fulls_lead_nearer net from numbered within there =
    All-map (λ (edge : Edge). LeadsNearer net.target from edge.to) (full from) (filter (opens from) (window net from))
    (All-filter (opens from) (IsDoorNearer net from) (window net from) (All-window net from numbered within there))

pub edges_lead_nearer : EdgesLeadNearer
edges_lead_nearer net from numbered nearing within there =
    All-append (λ (edge : Edge). LeadsNearer net.target from edge.to) (fulls from (window net from)) (filter (leaves from) net.differs)
    (fulls_lead_nearer net from numbered within there)
    (λ k d inside.
    let near = All-filter (leaves from) (IsNearing net.target) net.differs nearing k d inside in
    let own = eqb-true from (get_or (filter (leaves from) net.differs) k d).from (filter_passes (leaves from) net.differs k d inside) in
    subst (λ origin. LeadsNearer net.target origin (get_or (filter (leaves from) net.differs) k d).to) (sym own) near)
