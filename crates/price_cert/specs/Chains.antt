-- Chains of payloads in a graph, and least sums; the shortest paths of graph theory.
use Rattle.std.specs.Prelude.{◌≡◌, ℕ, ◌≤◌, Contains, List, [], ◌∷◌, Option, None, Some, sum_by}
use Rattle.payload_graph.specs.Net.{Net, edges_from}
use Rattle.payload_graph.specs.declared.edge.Edge.{Edge}

-- a chain leads from a release to the target: each payload leaves the release that the one before it
-- leads to; the empty one is at the target
abbrev pub IsChain : Net → ℕ → List Edge → Type 0
IsChain net from [] = from ≡ net.target
IsChain net from (edge ∷ edges) = Contains (edges_from net from) edge × IsChain net edge.to edges

-- the bytes of all payloads of a chain
abbrev pub sum_of : List Edge → ℕ
sum_of edges = sum_by (λ (edge : Edge). edge.bytes) edges

-- no chain leads from a release to the target
abbrev pub HasNoChain : Net → ℕ → Type 0
HasNoChain net from = (edges : List Edge) → ¬ (IsChain net from edges)

-- rule: Least sum
-- the least sum of a release: that of some chain, and no chain has a smaller one
pub record IsLeast (net : Net) (from sum : ℕ) : Type 0 where
  pub chain : List Edge
  pub leads : IsChain net from chain
  pub costs : sum_of chain ≡ sum
  pub least : (edges : List Edge) → IsChain net from edges → sum ≤ sum_of edges

-- a price is the least sum of a release, and without a price there is no chain
abbrev pub IsPriceOf : Net → ℕ → Option ℕ → Type 0
IsPriceOf net from None = HasNoChain net from
IsPriceOf net from (Some price) = IsLeast net from price
