-- What the rules of a table imply.
use Rattle.std.specs.Prelude.{◌≡◌, ◌↔◌, ℕ, ◌+◌, ◌^◌, ◌<◌, ◌≤◌, true, All, IfSome, List, length}
use Rattle.payload_graph.specs.Net.{Net}
use Rattle.payload_graph.specs.Soundness.{AreNumbered, IsBounded, IsNearing}
use Rattle.price_cert.specs.Chains.{IsPriceOf}
use Rattle.price_cert.specs.Rows.{price_at}
use Rattle.price_cert.specs.Rules.{AreCertified, meets_bounds, meets_bounds_to}
use Rattle.price_cert.specs.declared.row.Row.{Row}

-- what holds of each graph, by its readers
pub record IsGraph (net : Net) : Type 0 where
  pub within : net.target < length net.doors
  pub numbered : AreNumbered net.doors
  pub nearing : All (IsNearing net.target) net.differs
  pub bounded : IsBounded net

-- the prices of a table are the least sums of the releases, and releases without a price have no chain
abbrev pub ArePrices : Net → List Row → Type 0
ArePrices net rows = (from : ℕ) → from < length net.doors → IsPriceOf net from (price_at rows from)

-- those of a certified table are
abbrev pub CertifiedPricesAreLeast : Type 0
CertifiedPricesAreLeast =
    (net : Net) (rows : List Row) → IsGraph net → AreCertified net rows → ArePrices net rows

-- a sum that is at most 2^49 even with the bytes of one more package
abbrev pub IsSmall : ℕ → Type 0
IsSmall sum = sum + 2 ^ 40 ≤ 2 ^ 49

-- the prices of a table are small
abbrev pub AreSmall : Net → List Row → Type 0
AreSmall net rows = (from : ℕ) → from < length net.doors → IfSome (price_at rows from) IsSmall

-- those of a certified table are
abbrev pub CertifiedPricesAreSmall : Type 0
CertifiedPricesAreSmall =
    (net : Net) (rows : List Row) → IsGraph net → AreCertified net rows → AreSmall net rows

-- a graph has one certified table
abbrev pub CertifiedTablesAreOne : Type 0
CertifiedTablesAreOne =
    (net : Net) (rows others : List Row) →
    IsGraph net → AreCertified net rows → AreCertified net others → rows ≡ others

-- a row keeps C2 exactly if it does so for each release that payloads may lead to
abbrev pub PairsDecideBounds : Type 0
PairsDecideBounds =
    (net : Net) (rows : List Row) (from : ℕ) (row : Row) →
    (meets_bounds net rows from row ≡ true) ↔ ((to : ℕ) → meets_bounds_to net rows from row to ≡ true)
