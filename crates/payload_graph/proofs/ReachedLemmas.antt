-- Reached differentials lead nearer the target.
use Rattle.std.proofs.Common.{◌≡◌, ℕ, ◌<◌, ◌≤◌, inl, true, List, length, arith}
use Rattle.std.specs.List.{All, filter}
use Rattle.std.proofs.lemmas.Bool.{and_parts, leb-true, ltb-true}
use Rattle.std.proofs.Common.{leb, ltb, get_or}
use Rattle.std.proofs.lemmas.List.Elements.{All-filter, filter_passes}
use Rattle.payload_graph.proofs.ReachLemmas.{reach_of-bounds}
use Rattle.payload_graph.specs.Soundness.{AreResolved, IsNearing, is_reached, reach_of}
use Rattle.payload_graph.specs.declared.door.Door.{Door}
use Rattle.payload_graph.specs.declared.edge.Edge.{Edge}

IsNearing-reached :
    (target : ℕ) (doors : List Door) (edge : Edge) →
    target < length doors → is_reached target doors edge ≡ true → edge.from < edge.to →
    IsNearing target edge
IsNearing-reached target doors edge within reached rising =
    let parts = and_parts (leb edge.from target) _ reached in
    let low : edge.from ≤ target = leb-true edge.from target parts.0 in
    let before = and_parts (ltb edge.to (reach_of target doors edge.from)) _ parts.1 in
    let high : edge.to < reach_of target doors edge.from = ltb-true edge.to (reach_of target doors edge.from) before.0 in
    let bounds = reach_of-bounds target doors edge.from low within in
    inl (rising, omega arith)

pub All-reached :
    (target count : ℕ) (doors : List Door) (resolved : List Edge) →
    target < length doors → AreResolved count resolved →
    All (IsNearing target) (filter (is_reached target doors) resolved)
All-reached target count doors resolved within are k d there =
    let rising = All-filter (is_reached target doors) (λ (edge : Edge). (edge.from < edge.to) × (edge.to < count)) resolved are.rising in
    let passes = filter_passes (is_reached target doors) resolved in
    IsNearing-reached target doors (get_or (filter (is_reached target doors) resolved) k d) within (passes k d there) (rising k d there).0
