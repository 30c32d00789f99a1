use Rattle.std.proofs.Common.{◌≡◌, take}
use Rattle.std.specs.List.{filter}
use Rattle.par_tables.specs.Pieces.{has_target}
use Rattle.par_tables.proofs.tracks.targeted.Given as goal

abbrev pub invariant-loop-key : goal.invariant-loop-key
invariant-loop-key l = l.keys.items ≡ filter (has_target l.catalogue) (take l.key-index l.listed)
