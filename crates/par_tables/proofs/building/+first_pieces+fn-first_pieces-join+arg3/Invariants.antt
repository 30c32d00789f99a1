use Rattle.std.proofs.Common.{◌+◌, ◌*◌}
use Rattle.par_tables.proofs.building.+first_pieces+fn-first_pieces-join+arg3.Given as goal

abbrev pub decreases-first_pieces : goal.decreases-first_pieces
decreases-first_pieces g l = 2 * l.pieces

abbrev pub decreases-join+arg3 : goal.decreases-join+arg3
decreases-join+arg3 g l = 2 * l.last + 1
