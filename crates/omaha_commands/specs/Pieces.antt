-- Pieces of a table, each of which a thread of its own may test.
use Rattle.std.specs.Prelude.{◌≡◌, ℕ, ◌+◌, ◌*◌, ◌-◌, ◌/◌, ◌<◌, ◌≤◌, List, length, None}
use Rattle.payload_graph.specs.Net.{Net}
use Rattle.price_cert.specs.Rules.{broken_at}
use Rattle.price_cert.specs.declared.row.Row.{Row}

-- the rows from one index on, before another, break no rule
abbrev pub AreUnbroken : Net → List Row → ℕ → ℕ → Type 0
AreUnbroken net rows low high = (from : ℕ) → low ≤ from → from < high → broken_at net rows from ≡ None

-- where a piece of so many rows begins: there are two
abbrev pub bound_of : ℕ → ℕ → ℕ
bound_of count piece = piece * count / 2

-- the rows of a piece of those below the target, and of a piece of those above it, break no rule
pub record IsPieceUnbroken (net : Net) (rows : List Row) (piece : ℕ) : Type 0 where
  pub below : AreUnbroken net rows (bound_of net.target piece) (bound_of net.target (piece + 1))
  pub above :
      AreUnbroken net rows
      (net.target + 1 + bound_of (length rows - net.target - 1) piece)
      (net.target + 1 + bound_of (length rows - net.target - 1) (piece + 1))
