-- The prices of a certified table are the least sums.
use Rattle.std.proofs.Common.{◌≡◌, ℕ, ◌+◌, ◌<◌, inl, inr, List, [], ◌∷◌, length, Option, None, Some, refl, sym, ap, ◌∙◌, arith}
use Rattle.std.specs.List.{Contains}
use Rattle.std.proofs.lemmas.Bool.{eqb-true}
use Rattle.std.proofs.lemmas.List.Elements.{All-contains}
use Rattle.std.proofs.lemmas.List.Sums.{sum_by-cons}
use Rattle.payload_graph.specs.Laws.{EdgesLeadNearer}
use Rattle.payload_graph.specs.Net.{Net, edges_from}
use Rattle.payload_graph.specs.Soundness.{LeadsNearer}
use Rattle.payload_graph.specs.declared.edge.Edge.{Edge}
use Rattle.price_cert.proofs.InductionLemmas.{by_nearness}
use Rattle.price_cert.proofs.RuleLemmas.{HasNext-attained, HasRest-adds_up, IsPricedUpTo, IsPricedUpTo-bounded, Keeps, Keeps-unbroken, end_at_target, passed}
use Rattle.price_cert.specs.Chains.{IsChain, IsPriceOf, sum_of}
use Rattle.price_cert.specs.Laws.{ArePrices, IsGraph}
use Rattle.price_cert.specs.Rows.{price_at, price_of, row_at}
use Rattle.price_cert.specs.Rules.{AreCertified, is_at_most, is_bounded}
use Rattle.price_cert.specs.declared.row.Row.{Row}
use Rattle.price_cert.specs.declared.row.Row.TheVariants.{Nothing, End, Price}

-- a chain of a sum
pub record HasSum (net : Net) (from sum : ℕ) : Type 0 where
  pub chain : List Edge
  pub leads : IsChain net from chain
  pub costs : sum_of chain ≡ sum

-- a payload leads nearer the target
pub leads_nearer :
    (nearer : EdgesLeadNearer) (net : Net) (from : ℕ) (edge : Edge) →
    IsGraph net → from < length net.doors → Contains (edges_from net from) edge →
    LeadsNearer net.target from edge.to
leads_nearer nearer net from edge graph within inside =
    All-contains (λ (e : Edge). LeadsNearer net.target from e.to) (edges_from net from) edge
    (nearer net from graph.numbered graph.nearing graph.within within)
    inside

-- so it leads to a release
pub nearer-within :
    (net : Net) (from to : ℕ) →
    IsGraph net → from < length net.doors → LeadsNearer net.target from to → to < length net.doors
nearer-within net from to graph within near = elim near [
  | inl up ↦ let below = up.1 in let there = graph.within in omega arith
  | inr down ↦ let lower = down.1 in omega arith
]

module _ (nearer : EdgesLeadNearer) (net : Net) (rows : List Row) (graph : IsGraph net) (certified : AreCertified net rows) where
  pub keeps : (from : ℕ) → from < length net.doors → Keeps net rows from (row_at rows from)
  keeps from within = Keeps-unbroken net rows from (row_at rows from) (certified.right from within)

  -- no chain has a smaller sum than the price
  pub price-chain :
      (edges : List Edge) (from : ℕ) →
      from < length net.doors → IsChain net from edges → IsPricedUpTo (price_at rows from) (sum_of edges)
  price-chain [] from within leads =
      record {
        amount = 0;
        is = ap price_of (end_at_target net.target from (row_at rows from) (keeps from within).ends leads);
        most = omega arith;
      }
  price-chain (edge ∷ edges) from within leads =
      let near = leads_nearer nearer net from edge graph within leads.0 in
      let rest = price-chain edges edge.to (nearer-within net from edge.to graph within near) leads.1 in
      let bound = passed (is_bounded rows (row_at rows from)) (edges_from net from) edge (keeps from within).bounded leads.0 in
      let here = ap (λ (r : Option ℕ). is_at_most r (price_at rows from) edge.bytes) rest.is in
      let priced = IsPricedUpTo-bounded (price_at rows from) rest.amount edge.bytes (sym here ∙ bound) in
      let sum = sum_by-cons (λ (e : Edge). e.bytes) edge edges in
      let low = rest.most in
      let high = priced.most in
      record { amount = priced.amount; is = priced.is; most = omega arith }

  abbrev HasChain : ℕ → Type 0
  HasChain from = from < length net.doors → (price : ℕ) → price_at rows from ≡ Some price → HasSum net from price

  row_chain :
      (from : ℕ) → from < length net.doors →
      ((to : ℕ) → LeadsNearer net.target from to → HasChain to) →
      (row : Row) → Keeps net rows from row → (price : ℕ) → price_of row ≡ Some price →
      HasSum net from price
  row_chain from within below Nothing kept price is = cc
  row_chain from within below End kept price is =
      record { chain = []; leads = eqb-true from net.target kept.ends; costs = (cc) }
  row_chain from within below (Price sum kind to) kept price is =
      let next = HasNext-attained net rows from sum kind to kept.attained in
      let edge = next.edge in
      let near = leads_nearer nearer net from edge graph within next.inside in
      let adds = HasRest-adds_up (price_at rows edge.to) sum edge.bytes next.costing in
      let rest = below edge.to near (nearer-within net from edge.to graph within near) adds.left adds.is in
      let same : sum ≡ price = cc in
      record {
        chain = edge ∷ rest.chain;
        leads = (next.inside, rest.leads);
        costs =
            sum_by-cons (λ (e : Edge). e.bytes) edge rest.chain
            ∙ ap (λ n. edge.bytes + n) rest.costs
            ∙ sym adds.sum
            ∙ same;
      }

  -- a price is the sum of a chain
  pub chain-price :
      (from : ℕ) → from < length net.doors → (price : ℕ) → price_at rows from ≡ Some price →
      HasSum net from price
  chain-price = by_nearness HasChain net.target (λ from below within price is.
      row_chain from within below (row_at rows from) (keeps from within) price is)

  -- so it is the least one
  pub are_prices : ArePrices net rows
  are_prices from within = cases (price_at rows from) refl
    where
      cases : (price : Option ℕ) → price_at rows from ≡ price → IsPriceOf net from price
      cases None is = λ edges leads. let priced = price-chain edges from within leads in cc (priced.is, is)
      cases (Some price) is =
          let sum = chain-price from within price is in
          record {
            chain = sum.chain;
            leads = sum.leads;
            costs = sum.costs;
            least = λ edges leads.
                let priced = price-chain edges from within leads in
                let same : price ≡ priced.amount = cc (priced.is, is) in
                let most = priced.most in
                omega arith;
          }
