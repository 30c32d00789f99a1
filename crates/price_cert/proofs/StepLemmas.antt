-- The best full packages of neighbours' windows, and one differential more.
use Rattle.std.proofs.Common.{◌≡◌, ℕ, ◌+◌, ◌<◌, ◌≤◌, ◌&&◌, inl, inr, true, false, cond, eqb, leb, ltb, List, [], ◌∷◌, ◌++◌, get_or, length, take, slice_get, Option, None, Some, refl, sym, ap, ◌∙◌, subst, arith}
use Rattle.std.specs.Option.{option_map_or}
use Rattle.std.proofs.lemmas.Bool.{and_from, and_parts, cases_lt, eq-eqb, eqb-true, false≢true, le-leb, leb-true, lt-leb, lt-ltb}
use Rattle.std.proofs.lemmas.Option.{get_or_from_slice_get}
use Rattle.std.proofs.lemmas.List.{append_assoc, take_more}
use Rattle.payload_graph.specs.Laws.{WindowsGrowDown, WindowsHoldDoors}
use Rattle.payload_graph.specs.Net.{Net, fulls, opens, window}
use Rattle.payload_graph.specs.Soundness.{AreNumbered, is_floor_of, no_door}
use Rattle.payload_graph.specs.declared.door.Door.{Door}
use Rattle.payload_graph.specs.declared.edge.Edge.{Edge}
use Rattle.price_cert.specs.declared.row.Row.{Row}
use Rattle.price_cert.proofs.BestLemmas.{IsBest-back, IsBest-door_back, IsBest-door_front, IsBest-fewer}
use Rattle.price_cert.specs.Best.{IsBest, beyond, improved, is_still_open, lower, taken}

-- a window below the target is a door before the rest of it
pub IsBest-below :
    (net : Net) (rows : List Row) (from : ℕ) (doors : List Door) (rest result : Row) →
    WindowsGrowDown → net.target < length net.doors → from < net.target → doors ≡ net.doors →
    result ≡ taken rows rest from (get_or doors (from + 1) no_door) →
    IsBest rows (fulls from (beyond net from)) rest →
    IsBest rows (fulls from (window net from)) result
IsBest-below net rows from doors rest result grow within below same is known =
    subst (λ (row : Row). IsBest rows (fulls from (window net from)) row) (sym (is ∙ ap (λ (ds : List Door). taken rows rest from (get_or ds (from + 1) no_door)) same))
    (subst (λ (ds : List Door). IsBest rows (fulls from ds) (taken rows rest from (get_or net.doors (from + 1) no_door))) (sym (grow net from within below))
    (IsBest-door_front rows (beyond net from) (get_or net.doors (from + 1) no_door) from rest known))

-- after another door the next window is
pub IsBest-beyond :
    (net : Net) (rows : List Row) (from : ℕ) (row : Row) → (get_or net.doors (from + 1) no_door).stone ≡ false →
    IsBest rows (fulls from (window net (from + 1))) row → IsBest rows (fulls from (beyond net from)) row
IsBest-beyond net rows from row plain known =
    subst (λ (ds : List Door). IsBest rows (fulls from ds) row) (sym (ap (λ b. cond b [] (window net (from + 1))) plain)) known

-- a door that opens from a release opens from the next one
opens-next : (from : ℕ) (door : Door) → opens from door ≡ true → opens (from + 1) door ≡ true
opens-next from door opened =
    let parts = and_parts (leb door.floor from) door.offered opened in
    let low = leb-true door.floor from parts.0 in
    and_from (leb door.floor (from + 1)) door.offered (le-leb door.floor (from + 1) (omega arith)) parts.1

-- the best full package of a window is also that of the release below, as long as its door opens
pub IsBest-still :
    (net : Net) (rows : List Row) (from : ℕ) (doors : List Door) (row : Row) →
    WindowsHoldDoors → AreNumbered net.doors → doors ≡ net.doors → is_still_open doors from row ≡ true →
    IsBest rows (fulls (from + 1) (window net (from + 1))) row →
    IsBest rows (fulls from (window net (from + 1))) row
IsBest-still net rows from doors row hold numbered same still known =
    IsBest-fewer rows (window net (from + 1)) (from + 1) from row (opens-next from)
    (λ price kind to is k d within before its.
    let door = get_or (window net (from + 1)) k d in
    let own = (hold net (from + 1) numbered k d within).own in
    let at = ap (λ n. get_or net.doors n no_door) (sym (eqb-true door.to to its)) in
    opened to (slice_get net.doors to) refl (sym (ap (λ (r : Row). is_still_open net.doors from r) is) ∙ sym (ap (λ (ds : List Door). is_still_open ds from row) same) ∙ still) door (at ∙ own))
    known
  where
    opened :
        (to : ℕ) (found : Option Door) → slice_get net.doors to ≡ found → option_map_or (opens from) found false ≡ true →
        (door : Door) → get_or net.doors to no_door ≡ door → opens from door ≡ true
    opened to None is holds door own = absurd (false≢true holds)
    opened to (Some found) is holds door own =
        ap (opens from) (sym own ∙ get_or_from_slice_get net.doors to found no_door is) ∙ holds

-- a lower door whose floor isn't the next release opens from both or from neither
pub opens-both :
    (from : ℕ) (door : Door) → door.to ≤ from → is_floor_of (from + 1) door ≡ false →
    opens from door ≡ opens (from + 1) door
opens-both from door lower none = ap (λ b. b && door.offered) (elim (cases_lt from door.floor) [
  | inl above ↦ elim (cases_lt (from + 1) door.floor) [
    | inl higher ↦ lt-leb door.floor from above ∙ sym (lt-leb door.floor (from + 1) higher)
    | inr at ↦ absurd (false≢true (sym none
        ∙ and_from (ltb door.to (from + 1)) (eqb (from + 1) door.floor) (lt-ltb door.to (from + 1) (omega arith)) (eq-eqb (from + 1) door.floor (omega arith))))
  ]
  | inr low ↦ le-leb door.floor from low ∙ sym (le-leb door.floor (from + 1) (omega arith))
])

-- on a track that rolls back, the doors below a release are all the lower ones
pub IsBest-take :
    (net : Net) (rows : List Row) (from : ℕ) (row : Row) → net.rollback ≡ true →
    IsBest rows (fulls from (lower net from)) row → IsBest rows (fulls from (take from net.doors)) row
IsBest-take net rows from row rolls known =
    subst (λ (ds : List Door). IsBest rows (fulls from ds) row) (ap (λ b. cond b (take from net.doors) []) rolls) known

pub IsBest-lower :
    (net : Net) (rows : List Row) (from : ℕ) (row : Row) → net.rollback ≡ true →
    IsBest rows (fulls from (take from net.doors)) row → IsBest rows (fulls from (lower net from)) row
IsBest-lower net rows from row rolls known =
    subst (λ (ds : List Door). IsBest rows (fulls from ds) row) (sym (ap (λ b. cond b (take from net.doors) []) rolls)) known

-- one door more
pub IsBest-door :
    (rows : List Row) (from : ℕ) (doors : List Door) (index : ℕ) (d : Door) (row result : Row) →
    index < length doors → result ≡ taken rows row from (get_or doors index d) →
    IsBest rows (fulls from (take index doors)) row → IsBest rows (fulls from (take (index + 1) doors)) result
IsBest-door rows from doors index d row result within is known =
    subst (λ (r : Row). IsBest rows (fulls from (take (index + 1) doors)) r) (sym is)
    (subst (λ (ds : List Door). IsBest rows (fulls from ds) (taken rows row from (get_or doors index d))) (sym (take_more doors index d within))
    (IsBest-door_back rows (take index doors) (get_or doors index d) from row known))

-- one differential more
pub IsBest-differ :
    (rows : List Row) (edges differs : List Edge) (index : ℕ) (d : Edge) (row result : Row) →
    index < length differs → result ≡ improved rows row (get_or differs index d) →
    IsBest rows (edges ++ take index differs) row → IsBest rows (edges ++ take (index + 1) differs) result
IsBest-differ rows edges differs index d row result within is known =
    subst (λ (r : Row). IsBest rows (edges ++ take (index + 1) differs) r) (sym is)
    (subst (λ (es : List Edge). IsBest rows es (improved rows row (get_or differs index d))) (sym grown)
    (IsBest-back rows (edges ++ take index differs) (get_or differs index d) row known))
  where
    grown : edges ++ take (index + 1) differs ≡ (edges ++ take index differs) ++ get_or differs index d ∷ []
    grown =
        ap (λ (es : List Edge). edges ++ es) (take_more differs index d within)
        ∙ sym (append_assoc edges (take index differs) (get_or differs index d ∷ []))
