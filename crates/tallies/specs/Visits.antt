-- What is counted of a connection; this project's profile.
use Rattle.std.specs.Prelude.{ℕ, Bool, false, true, if◌then◌else◌, List, [], ◌∷◌}
use Rattle.tallies.specs.declared.cell.Cell.{Cell}
use Rattle.tallies.specs.declared.cell.Cell.TheVariants as cell

-- a connection is active if bytes wait that have no whole reply
abbrev pub is_active : List ℕ → Bool
is_active [] = false
is_active (byte ∷ bytes) = true

-- rule: Cell of a connection
abbrev pub gauge_of : Bool → Cell
gauge_of active = if active then cell.Active else cell.Idle
