-- Which cohorts have cells of their own, however many there are; this project's profile.
use Rattle.std.specs.Prelude.{◌≡◌, ℕ, ◌<◌, ◌-◌, ◌^◌, true, List, Some, slice_get}
use Rattle.tallies.specs.Rooms.{has_cell, room}
use Rattle.tallies.specs.declared.cell.Cell.TheVariants as cell
use Rattle.tallies.specs.declared.check.Outcome.{Outcome}
use Rattle.tallies.specs.declared.check.Track.{Track}

-- each cohort that is there when a tally is made has a cell for each outcome
abbrev pub CohortsHaveCells : Type 0
CohortsHaveCells =
    (mirrors : ℕ) (cohorts : List ℕ) (track : Track) (outcome : Outcome) (many : ℕ) → many < 2 ^ 64 - 1
    → slice_get cohorts track.app ≡ Some many → track.cohort < many → has_cell (room mirrors cohorts) (cell.Checks track outcome) ≡ true
