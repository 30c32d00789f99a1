-- Settled rows keep the rules of a table.
use Rattle.std.proofs.Common.{◌≡◌, ℕ, ◌+◌, ◌*◌, ◌<◌, ◌≤◌, ◌⊎◌, inl, inr, true, List, leb, length, Option, None, Some, IfSome, sym, subst, arith}
use Rattle.std.specs.List.{Contains}
use Rattle.std.proofs.lemmas.Bool.{and_parts, cases_lt, eqb-true, false≢true, leb-true}
use Rattle.std.proofs.lemmas.List.Elements.{All-contains}
use Rattle.std.proofs.lemmas.List.Folds.{Any-from_list_any}
use Rattle.catalogue.specs.Forms.{is_size}
use Rattle.payload_graph.specs.Laws.{EdgesAreSized, EdgesLeadNearer}
use Rattle.payload_graph.specs.Net.{Net, edges_from}
use Rattle.payload_graph.specs.Soundness.{LeadsNearer}
use Rattle.payload_graph.specs.declared.edge.Edge.{Edge}
use Rattle.price_cert.specs.Laws.{IsGraph, IsSmall}
use Rattle.price_cert.specs.Rows.{price_at, price_of}
use Rattle.price_cert.specs.Rules.{adds_up, costs, is_named, is_next}
use Rattle.price_cert.specs.declared.row.Row.{Row}
use Rattle.price_cert.specs.declared.row.Row.TheVariants.{Nothing, End, Price}
use Rattle.price_cert.specs.Best.{ArePricesSmall, IsBest, IsBestTable}
use Rattle.solver.specs.Settled.{AreSettled, AreWithin, IsWithin}

-- one package more, from a release further from the target
IsWithin-more :
    (net : Net) (from to bytes sum : ℕ) →
    IsGraph net → from < length net.doors →
    LeadsNearer net.target from to → bytes ≤ 1099511627776 → IsWithin net.target to sum →
    IsWithin net.target from (bytes + sum)
IsWithin-more net from to bytes sum graph there near sized within = elim near [
  | inl upward ↦
      let less = upward.0 in
      let below = upward.1 in
      let rest = within.up below in
      let aim = graph.within in
      let few = graph.bounded.few in
      record { up = λ low. omega arith; down = λ past. absurd (omega arith); small = omega arith }
  | inr downward ↦
      let past = downward.0 in
      let less = downward.1 in
      let few = graph.bounded.few in
      let most : bytes + sum ≤ 1099511627776 * from = lower past less (cases_lt net.target to) in
      record { up = λ low. absurd (omega arith); down = λ above. most; small = omega arith }
]
  where
    lower : net.target < from → to < from → (net.target < to) ⊎ (to ≤ net.target) → bytes + sum ≤ 1099511627776 * from
    lower past less (inl above) = let rest = within.down above in omega arith
    lower past less (inr below) = let rest = within.up below in omega arith

-- the price of a best row is such a sum
pub IsWithin-best :
    EdgesLeadNearer → EdgesAreSized → (net : Net) (rows : List Row) (from : ℕ) →
    IsGraph net → AreWithin net.target rows → from < length net.doors → (row : Row) →
    IsBest rows (edges_from net from) row → IfSome (price_of row) (IsWithin net.target from)
IsWithin-best nearer are_sized net rows from graph within there Nothing best = tt
IsWithin-best nearer are_sized net rows from graph within there End best = absurd (false≢true best.names)
IsWithin-best nearer are_sized net rows from graph within there (Price price kind to) best =
    let found = Any-from_list_any (is_next rows price kind to) (edges_from net from) best.names in
    let edge = found.1 in
    let inside : Contains (edges_from net from) edge = (found.0, found.2, found.3) in
    let costing = (and_parts (is_named kind to edge) (costs rows price edge) found.4).1 in
    let near = All-contains (λ (e : Edge). LeadsNearer net.target from e.to) (edges_from net from) edge (nearer net from graph.numbered graph.nearing graph.within there) inside in
    let size = All-contains (λ (e : Edge). is_size e.bytes ≡ true) (edges_from net from) edge (are_sized net from graph.bounded) inside in
    let sized = leb-true edge.bytes 1099511627776 (and_parts (leb 1 edge.bytes) (leb edge.bytes 1099511627776) size).1 in
    sum (price_at rows edge.to) edge.to edge.bytes (within edge.to) costing near sized
  where
    sum :
        (rest : Option ℕ) (end bytes : ℕ) →
        IfSome rest (IsWithin net.target end) → adds_up rest price bytes ≡ true →
        LeadsNearer net.target from end → bytes ≤ 1099511627776 → IsWithin net.target from price
    sum None end bytes inside adds near sized = absurd (false≢true adds)
    sum (Some rest) end bytes inside adds near sized =
        subst (IsWithin net.target from) (sym (eqb-true price (bytes + rest) adds))
        (IsWithin-more net from end bytes rest graph there near sized inside)

-- what is within bounds is small
pub IsSmall-within : (target release : ℕ) (price : Option ℕ) → IfSome price (IsWithin target release) → IfSome price IsSmall
IsSmall-within target release None within = tt
IsSmall-within target release (Some price) within = within.small

-- the prices of a table that is within bounds are small
pub ArePricesSmall-within : (target : ℕ) (rows : List Row) → AreWithin target rows → ArePricesSmall rows
ArePricesSmall-within target rows within release = IsSmall-within target release (price_at rows release) (within release)

-- settled rows are a table of best ones
pub IsBestTable-settled : (net : Net) (rows : List Row) → AreSettled net rows 0 (length net.doors) → IsBestTable net rows
IsBestTable-settled net rows settled = record {
  sized = settled.sized;
  target = settled.target;
  best = λ from within apart. settled.best from (omega arith) within apart;
}
