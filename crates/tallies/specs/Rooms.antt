-- The cells that a tally has; this project's profile.
use Rattle.std.specs.Prelude.{ℕ, ◌+◌, ◌-◌, ◌^◌, nat_lt, min, Bool, false, true, List, ◌++◌, length, map, replicate, slice_get}
use Rattle.std.specs.Option.{option_map_or}
use Rattle.tallies.specs.declared.cell.Cell.{Cell}
use Rattle.tallies.specs.declared.cell.Cell.TheVariants as cell
use Rattle.tallies.specs.declared.codes.TheConstants.{CODES}

-- how many statuses and mirrors there are cells for, and how many cohorts of each app
pub record Room : Type 0 where
  pub statuses : ℕ
  pub mirrors : ℕ
  pub cohorts : List ℕ

-- so many, and 16 more
abbrev pub with_more : ℕ → ℕ
with_more many = min (many + 16) (2 ^ 64 - 1)

-- rule: Cells of a tally
-- there is room for all statuses, for the mirrors, for the cohorts of each app and 16 more, and for 256 more apps
abbrev pub room : ℕ → List ℕ → Room
room mirrors cohorts =
    record { statuses = length CODES; mirrors = mirrors; cohorts = map with_more cohorts ++ replicate 256 16 }

-- whether there is room for a cell
abbrev pub has_cell : Room → Cell → Bool
has_cell room (cell.Replies position) = nat_lt position room.statuses
has_cell room (cell.Checks track outcome) =
    option_map_or (λ many. nat_lt track.cohort many) (slice_get room.cohorts track.app) false
has_cell room (cell.Bytes mirror kind) = nat_lt mirror room.mirrors
has_cell room other = true
