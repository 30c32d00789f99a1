-- How many connections ports may hold at once; this project's profile.
use Rattle.std.specs.Prelude.{◌/◌, ◌≤◌, ℕ, max}
use Rattle.systems.specs.Edges.{Edges}

-- of so many connections in all, as many as each of so many ports may hold if the system allows all, and at least one
abbrev pub share_of : ℕ → ℕ → ℕ
share_of connections ports = max (connections / max ports 1) 1

-- each of so many ports may hold so many connections, of so many in all: as many as the system allows, at least one, and at
-- most its share
pub record IsCapacity (edges : Edges) (connections ports capacity : ℕ) : Type 0 where
  pub held : edges.holds connections ports capacity
  pub some : 1 ≤ capacity
  pub few : capacity ≤ share_of connections ports
