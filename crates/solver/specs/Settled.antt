-- Rows that are settled, of a table that is filled in from the target on.
use Rattle.std.specs.Prelude.{◌≡◌, ℕ, ◌+◌, ◌*◌, ◌^◌, ◌<◌, ◌≤◌, IfSome, List, length}
use Rattle.payload_graph.specs.Net.{Net, edges_from}
use Rattle.price_cert.specs.Laws.{IsSmall}
use Rattle.price_cert.specs.Rows.{price_at, row_at}
use Rattle.price_cert.specs.declared.row.Row.{Row}
use Rattle.price_cert.specs.declared.row.Row.TheVariants.{End}
use Rattle.price_cert.specs.Best.{IsBest}

-- a sum of at most the largest package for each release on the way: up to the target, or down from
-- above it
pub record IsWithin (target release sum : ℕ) : Type 0 where
  pub up : release ≤ target → sum + 2 ^ 40 * release ≤ 2 ^ 40 * target
  pub down : target < release → sum ≤ 2 ^ 40 * release
  pub small : IsSmall sum

-- all prices so far are such sums
abbrev pub AreWithin : ℕ → List Row → Type 0
AreWithin target rows = (release : ℕ) → IfSome (price_at rows release) (IsWithin target release)

-- rule: Settled rows
-- the rows of the releases from one index on, before another, are settled: the target's is the end, and
-- each other one names the best payload of its release
pub record AreSettled (net : Net) (rows : List Row) (low high : ℕ) : Type 0 where
  pub sized : length rows ≡ length net.doors
  pub within : AreWithin net.target rows
  pub target : row_at rows net.target ≡ End
  pub best :
      (from : ℕ) → low ≤ from → from < high → (from ≡ net.target → ⊥) →
      IsBest rows (edges_from net from) (row_at rows from)
