-- The cells of a tally; this project's profile.
use Rattle.std.specs.Prelude.{Option, None, Some}
use Rattle.tallies.specs.declared.cell.Cell.{Cell}
use Rattle.tallies.specs.declared.cell.Cell.TheVariants as cell
use Rattle.tallies.specs.declared.check.Check.{Check}
use Rattle.tallies.specs.declared.check.Check.TheVariants as check
use Rattle.tallies.specs.declared.check.Grant.{Grant}
use Rattle.tallies.specs.declared.check.Outcome.TheVariants as outcome

-- rule: Cell of an update check
-- that of its cohort and its outcome, or the one of unknown apps
abbrev pub cell_of : Check → Cell
cell_of check.Unknown = cell.Unknown
cell_of (check.NoUpdate track) = cell.Checks track outcome.NoUpdate
cell_of (check.Internal track) = cell.Checks track outcome.Internal
cell_of (check.Offered track grant) = cell.Checks track outcome.Offered

-- rule: Cell of offered bytes
-- that of the mirror which granted them, and of the payload's kind
abbrev pub grant_cell : Grant → Cell
grant_cell grant = cell.Bytes grant.mirror grant.kind

-- what was granted for an update check, if it has an offer
abbrev pub grant_of : Check → Option Grant
grant_of (check.Offered track grant) = Some grant
grant_of other = None
