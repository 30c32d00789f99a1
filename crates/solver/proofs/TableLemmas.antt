-- Each graph has a certified table: its rows are settled one after the other, down from the target and then up from it.
use Rattle.std.proofs.Common.{◌≡◌, ℕ, zero, suc, ◌+◌, ◌-◌, ◌<◌, ◌≤◌, List, length, replicate, set, refl, subst, arith}
use Rattle.payload_graph.specs.Laws.{EdgesAreSized, EdgesLeadNearer, FullsLeadNearer}
use Rattle.payload_graph.specs.Net.{Net, edges_from}
use Rattle.price_cert.specs.Best.{BestTablesAreCertified, ListsHaveBest}
use Rattle.price_cert.specs.Laws.{IsGraph}
use Rattle.price_cert.specs.declared.row.Row.{Row}
use Rattle.price_cert.specs.declared.row.Row.TheVariants.{Nothing, End}
use Rattle.solver.specs.Laws.{GraphsHaveTables}
use Rattle.solver.specs.Settled.{AreSettled}
use Rattle.solver.proofs.FillLemmas.{AreSettled-above, AreSettled-below, AreSettled-end}
use Rattle.solver.proofs.SettledLemmas.{IsBestTable-settled}

module _ (nearer : EdgesLeadNearer) (fulls : FullsLeadNearer) (are_sized : EdgesAreSized) (best : ListsHaveBest)
    (net : Net) (graph : IsGraph net) where
  -- rows that are settled between two indexes
  abbrev Rows : ℕ → ℕ → Type 0
  Rows low high = (rows : List Row) × AreSettled net rows low high

  -- down from the target, if so many releases are left below
  below : (left : ℕ) → left ≤ net.target → Rows left (net.target + 1) → Rows 0 (net.target + 1)
  below zero within settled = settled
  below (suc left) within (rows, settled) =
      let row = best rows (edges_from net left) in
      let step : suc left ≡ left + 1 = omega arith in
      below left (omega arith) (
        set rows left row.0,
        AreSettled-below nearer fulls are_sized net graph rows left row.0 (omega arith)
            (subst (λ (n : ℕ). AreSettled net rows n (net.target + 1)) step settled) row.1,
      )

  -- and up from it, if so many are left above
  above : (left from : ℕ) → net.target < from → from + left ≡ length net.doors → Rows 0 from → Rows 0 (length net.doors)
  above zero from past all settled = subst (Rows 0) (let same : from ≡ length net.doors = omega arith in same) settled
  above (suc left) from past all (rows, settled) =
      let row = best rows (edges_from net from) in
      above left (from + 1) (omega arith) (omega arith) (
        set rows from row.0,
        AreSettled-above nearer fulls are_sized net graph rows from row.0 past (omega arith) settled row.1,
      )

  settled-all : (left : ℕ) → net.target + 1 + left ≡ length net.doors → Rows 0 (length net.doors)
  settled-all left all =
      let rows = replicate (length net.doors) Nothing in
      above left (net.target + 1) (omega arith) all
      (below net.target (omega arith) (set rows net.target End, AreSettled-end net rows graph refl))

  pub rows-settled : Rows 0 (length net.doors)
  rows-settled =
      let within = graph.within in
      settled-all (length net.doors - (net.target + 1)) (omega arith)

pub graphs_have_tables :
    EdgesLeadNearer → FullsLeadNearer → EdgesAreSized → BestTablesAreCertified → ListsHaveBest → GraphsHaveTables
graphs_have_tables nearer fulls are_sized certified best net graph =
    let settled = rows-settled nearer fulls are_sized best net graph in
    (settled.0, certified net settled.0 (IsBestTable-settled net settled.0 settled.1))
