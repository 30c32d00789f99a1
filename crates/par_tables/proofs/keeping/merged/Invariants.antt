use Rattle.std.proofs.Common.{◌≡◌, [], length, take}
use Rattle.std.specs.List.{filter}
use Rattle.par_tables.specs.Marks.{is_marked}
use Rattle.par_tables.specs.Tables.{Adds}
use Rattle.par_tables.proofs.keeping.merged.Given as goal

abbrev pub invariant-loop-key : goal.invariant-loop-key
invariant-loop-key l = record {
  adds : Adds l.made (take l.key-index l.listed) [] l.merged.items;
  counted : l.next ≡ length (filter (is_marked l.marks) (take l.key-index l.listed));
}
