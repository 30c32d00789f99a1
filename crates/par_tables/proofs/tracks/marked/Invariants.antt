use Rattle.std.proofs.Common.{◌≡◌, take}
use Rattle.std.specs.List.{filter}
use Rattle.par_tables.specs.Marks.{is_marked}
use Rattle.par_tables.proofs.tracks.marked.Given as goal

abbrev pub invariant-loop-key : goal.invariant-loop-key
invariant-loop-key l = l.keys.items ≡ filter (is_marked l.marks) (take l.key-index l.listed)
