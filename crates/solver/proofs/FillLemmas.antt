-- The rows that one step of the pass settles.
use Rattle.std.proofs.Common.{◌≡◌, ℕ, ◌+◌, ◌<◌, ◌≤◌, ◌⊎◌, inl, inr, List, [], cond, get_or, length, replicate, set, take, drop, IfSome, sym, ap, ◌∙◌, subst, arith}
use Rattle.std.proofs.lemmas.Bool.{cases_eq, cases_lt, lt-ltb}
use Rattle.std.proofs.lemmas.List.{get_or-replicate, get_or-set_other, get_or-set_same, get_or_past, length-replicate, length-set}
use Rattle.std.proofs.lemmas.List.Elements.{All-weaker}
use Rattle.payload_graph.specs.Laws.{EdgesAreSized, EdgesLeadNearer, FullsLeadNearer}
use Rattle.payload_graph.specs.Net.{Net, edges_from, fulls, to_stone, window}
use Rattle.payload_graph.specs.Soundness.{LeadsNearer}
use Rattle.payload_graph.specs.declared.door.Door.{Door}
use Rattle.payload_graph.specs.declared.edge.Edge.{Edge}
use Rattle.price_cert.specs.Laws.{IsGraph}
use Rattle.price_cert.specs.Rows.{price_at, price_of, row_at}
use Rattle.price_cert.specs.declared.row.Row.{Row}
use Rattle.price_cert.specs.declared.row.Row.TheVariants.{Nothing, End}
use Rattle.solver.proofs.WriteLemmas.{AreSettled-write, IsBest-write}
use Rattle.price_cert.specs.Best.{IsBest, lower}
use Rattle.solver.specs.Settled.{AreSettled, IsWithin}

-- a way up doesn't come back, nor does a way down
not_up : (target from to : ℕ) → to ≤ from → from ≤ target → LeadsNearer target from to → ⊥
not_up target from to low below (inl up) = let more = up.0 in omega arith
not_up target from to low below (inr down) = let past = down.0 in omega arith

not_down : (target from to : ℕ) → target < to → from ≤ to → LeadsNearer target from to → ⊥
not_down target from to past low (inl up) = let most = up.1 in omega arith
not_down target from to past low (inr down) = let less = down.1 in omega arith

-- a window above the target
pub window-lower : (net : Net) (from : ℕ) → net.target < from → window net from ≡ lower net from
window-lower net from past =
    ap (λ b. cond b (cond net.rollback (take from net.doors) []) (to_stone (drop (from + 1) (take (net.target + 1) net.doors)))) (lt-ltb net.target from past)

module _ (nearer : EdgesLeadNearer) (fulls_nearer : FullsLeadNearer) (are_sized : EdgesAreSized) (net : Net) (graph : IsGraph net) where
  -- the best full package of a release's window stays the best when the release's row is written
  pub IsBest-window :
      (rows : List Row) (from : ℕ) (row best : Row) → from < length net.doors →
      IsBest rows (fulls from (window net from)) best →
      IsBest (set rows from row) (fulls from (window net from)) best
  IsBest-window rows from row best there known =
      IsBest-write rows from row (fulls from (window net from))
      (All-weaker (λ (edge : Edge). LeadsNearer net.target from edge.to) (λ (edge : Edge). edge.to ≡ from → ⊥)
      (λ edge near same. itself (subst (LeadsNearer net.target from) same near))
      (fulls from (window net from)) (fulls_nearer net from graph.numbered graph.within there))
      best known
    where
      itself : LeadsNearer net.target from from → ⊥
      itself (inl up) = let more = up.0 in omega arith
      itself (inr down) = let less = down.1 in omega arith

  -- the same above the target
  pub IsBest-lower :
      (rows : List Row) (from : ℕ) (row best : Row) → from < length net.doors → net.target < from →
      IsBest rows (fulls from (lower net from)) best →
      IsBest (set rows from row) (fulls from (lower net from)) best
  IsBest-lower rows from row best there past known =
      subst (λ (doors : List Door). IsBest (set rows from row) (fulls from doors) best) (window-lower net from past)
      (IsBest-window rows from row best there
      (subst (λ (doors : List Door). IsBest rows (fulls from doors) best) (sym (window-lower net from past)) known))

  -- the row of the release below the settled ones is written
  pub AreSettled-below :
      (rows : List Row) (from : ℕ) (row : Row) → from < net.target →
      AreSettled net rows (from + 1) (net.target + 1) → IsBest rows (edges_from net from) row →
      AreSettled net (set rows from row) from (net.target + 1)
  AreSettled-below rows from row below settled best =
      let aim = graph.within in
      AreSettled-write nearer are_sized net graph rows (from + 1) (net.target + 1) from row settled (omega arith) (λ same. omega arith) best
      from (net.target + 1)
      (λ release least most apart. (let other = higher release least apart in omega arith, omega arith))
      (λ release least most. not_up net.target release from (omega arith) (omega arith))
      (omega arith) (omega arith)
      (not_up net.target from from (omega arith) (omega arith))
    where
      higher : (release : ℕ) → from ≤ release → (release ≡ from → ⊥) → from < release
      higher release least apart = omega arith

  -- the row of the release above the settled ones is written
  pub AreSettled-above :
      (rows : List Row) (from : ℕ) (row : Row) → net.target < from → from < length net.doors →
      AreSettled net rows 0 from → IsBest rows (edges_from net from) row →
      AreSettled net (set rows from row) 0 (from + 1)
  AreSettled-above rows from row above there settled best =
      AreSettled-write nearer are_sized net graph rows 0 from from row settled there (λ same. omega arith) best
      0 (from + 1)
      (λ release least most apart. (omega arith, lower_one release most apart))
      (λ release least most. not_down net.target release from above (omega arith))
      (omega arith) (omega arith)
      (not_down net.target from from above (omega arith))
    where
      lower_one : (release : ℕ) → release < from + 1 → (release ≡ from → ⊥) → release < from
      lower_one release most apart = omega arith

-- the end alone is written
pub AreSettled-end :
    (net : Net) (rows : List Row) → IsGraph net →
    rows ≡ replicate (length net.doors) Nothing →
    AreSettled net (set rows net.target End) net.target (net.target + 1)
AreSettled-end net rows graph none = record {
  sized = length-set rows net.target End ∙ sized;
  within = λ release. elim (cases_eq release net.target) [
    | inl same ↦
        subst (λ n. IfSome (price_at (set rows net.target End) n) (IsWithin net.target n)) (sym same)
        (subst (λ (r : Row). IfSome (price_of r) (IsWithin net.target net.target)) (sym own)
        (record { up = λ low. omega arith; down = λ past. absurd (omega arith); small = omega arith }))
    | inr apart ↦
        subst (λ (r : Row). IfSome (price_of r) (IsWithin net.target release)) (sym (get_or-set_other rows net.target release End Nothing apart))
        (unset release (cases_lt release (length net.doors)))
  ];
  target = own;
  best = λ from least most apart. absurd (apart (omega arith));
}
  where
    sized : length rows ≡ length net.doors
    sized = ap length none ∙ length-replicate (length net.doors) Nothing

    own : row_at (set rows net.target End) net.target ≡ End
    own =
        let within = graph.within in
        let same = ap length none ∙ length-replicate (length net.doors) Nothing in
        get_or-set_same rows net.target End Nothing (omega arith)

    unset : (release : ℕ) → (release < length net.doors) ⊎ (length net.doors ≤ release) → IfSome (price_of (row_at rows release)) (IsWithin net.target release)
    unset release (inl inside) =
        subst (λ (r : Row). IfSome (price_of r) (IsWithin net.target release))
        (sym (ap (λ (rs : List Row). get_or rs release Nothing) none ∙ get_or-replicate (length net.doors) release Nothing Nothing inside)) tt
    unset release (inr past) =
        subst (λ (r : Row). IfSome (price_of r) (IsWithin net.target release))
        (sym (get_or_past rows release Nothing (let same = ap length none ∙ length-replicate (length net.doors) Nothing in omega arith))) tt
