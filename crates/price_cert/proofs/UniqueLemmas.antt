-- A graph has one certified table.
use Rattle.std.proofs.Common.{◌≡◌, ℕ, ◌<◌, inl, inr, not, true, List, length, Option, None, Some, refl, sym, ap, ◌∙◌, subst, arith}
use Rattle.std.proofs.lemmas.Bool.{false≢true, or_cases}
use Rattle.std.proofs.lemmas.List.{get_or_default, same_lists}
use Rattle.payload_graph.specs.Laws.{EdgesLeadNearer}
use Rattle.payload_graph.specs.Net.{Net, edges_from}
use Rattle.payload_graph.specs.declared.edge.Kind.{Kind}
use Rattle.price_cert.proofs.LeastLemmas.{chain-price, keeps, leads_nearer, nearer-within, price-chain}
use Rattle.price_cert.proofs.RuleLemmas.{HasNext-attained, Keeps, passed, yields_to, yields_to-both, yields_to-named}
use Rattle.price_cert.specs.Laws.{IsGraph}
use Rattle.price_cert.specs.Rows.{price_at, price_of, row_at}
use Rattle.price_cert.specs.Rules.{AreCertified, adds_up, costs, is_first_or_larger, yields}
use Rattle.price_cert.specs.declared.row.Row.{Row}
use Rattle.price_cert.specs.declared.row.Row.TheVariants.{Nothing, End, Price}

-- two tables have the same price at each release
abbrev HaveSamePrices : Net → List Row → List Row → Type 0
HaveSamePrices net rows others = (from : ℕ) → from < length net.doors → price_at rows from ≡ price_at others from

-- the payload that the one table names yields to that of the other
yields_to-first :
    (nearer : EdgesLeadNearer) (net : Net) (rows others : List Row) (from : ℕ) (price : ℕ) (kind other_kind : Kind) (to other : ℕ) →
    IsGraph net → from < length net.doors → HaveSamePrices net rows others →
    Keeps net rows from (Price price kind to) → Keeps net others from (Price price other_kind other) →
    yields_to kind to other_kind other ≡ true
yields_to-first nearer net rows others from price kind other_kind to other graph within same one two =
    let next = HasNext-attained net rows from price kind to one.attained in
    let edge = next.edge in
    let there = nearer-within net from edge.to graph within (leads_nearer nearer net from edge graph within next.inside) in
    let costing : costs others price edge ≡ true = sym (ap (λ (r : Option ℕ). adds_up r price edge.bytes) (same edge.to there)) ∙ next.costing in
    let first = passed (is_first_or_larger others price other_kind other) (edges_from net from) edge two.first next.inside in
    elim (or_cases (not (costs others price edge)) (yields edge other_kind other) first) [
      | inl dearer ↦ absurd (false≢true (sym (ap not costing) ∙ dearer))
      | inr yielding ↦ yields_to-named edge kind to other_kind other next.named yielding
    ]

module _ (nearer : EdgesLeadNearer) (net : Net) (rows others : List Row) (graph : IsGraph net) (one : AreCertified net rows) (two : AreCertified net others) where
  same_prices : HaveSamePrices net rows others
  same_prices from within = cases (price_at rows from) (price_at others from) refl refl
    where
      cases : (price other : Option ℕ) → price_at rows from ≡ price → price_at others from ≡ other → price ≡ other
      cases None None is are = refl
      cases None (Some other) is are =
          let sum = chain-price nearer net others graph two from within other are in
          let priced = price-chain nearer net rows graph one sum.chain from within sum.leads in
          cc (priced.is, is)
      cases (Some price) None is are =
          let sum = chain-price nearer net rows graph one from within price is in
          let priced = price-chain nearer net others graph two sum.chain from within sum.leads in
          cc (priced.is, are)
      cases (Some price) (Some other) is are =
          let sum = chain-price nearer net rows graph one from within price is in
          let others_sum = chain-price nearer net others graph two from within other are in
          let most = price-chain nearer net others graph two sum.chain from within sum.leads in
          let others_most = price-chain nearer net rows graph one others_sum.chain from within others_sum.leads in
          let first : other ≡ most.amount = cc (most.is, are) in
          let second : price ≡ others_most.amount = cc (others_most.is, is) in
          let low = most.most in
          let high = others_most.most in
          let costs = sum.costs in
          let others_costs = others_sum.costs in
          let equal : price ≡ other = omega arith in
          ap (λ n. Some n) equal

  same_rows_at :
      (from : ℕ) → from < length net.doors → (row other : Row) →
      Keeps net rows from row → Keeps net others from other → price_of row ≡ price_of other → row ≡ other
  same_rows_at from within Nothing Nothing kept keeping same = refl
  same_rows_at from within Nothing End kept keeping same = cc
  same_rows_at from within Nothing (Price price kind to) kept keeping same = cc
  same_rows_at from within End Nothing kept keeping same = cc
  same_rows_at from within End End kept keeping same = refl
  same_rows_at from within End (Price price kind to) kept keeping same =
      absurd (false≢true (sym (ap not kept.ends) ∙ keeping.ends))
  same_rows_at from within (Price price kind to) Nothing kept keeping same = cc
  same_rows_at from within (Price price kind to) End kept keeping same =
      absurd (false≢true (sym (ap not keeping.ends) ∙ kept.ends))
  same_rows_at from within (Price price kind to) (Price sum other_kind other) kept keeping same =
      let equal : sum ≡ price = cc in
      let here = subst (λ n. Keeps net others from (Price n other_kind other)) equal keeping in
      let there = yields_to-first nearer net rows others from price kind other_kind to other graph within same_prices kept here in
      let back = yields_to-first nearer net others rows from price other_kind kind other to graph within (λ release inside. sym (same_prices release inside)) here kept in
      let are = yields_to-both kind other_kind to other there back in
      ap (λ n. Price n kind to) (sym equal)
      ∙ ap (λ k. Price sum k to) are.kinds
      ∙ ap (λ n. Price sum other_kind n) are.releases

  pub tables_are_one : rows ≡ others
  tables_are_one =
      same_lists rows others (one.sized ∙ sym two.sized) (λ from d there.
      let sized = one.sized in
      let others_sized = two.sized in
      let within : from < length net.doors = omega arith in
      let inside : from < length others = omega arith in
      get_or_default rows from d Nothing there
      ∙ same_rows_at from within (row_at rows from) (row_at others from) (keeps nearer net rows graph one from within) (keeps nearer net others graph two from within) (same_prices from within)
      ∙ get_or_default others from Nothing d inside)
