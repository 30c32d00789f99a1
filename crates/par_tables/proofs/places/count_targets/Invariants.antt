use Rattle.std.proofs.Common.{◌≡◌, ◌≤◌, length, take}
use Rattle.par_tables.specs.Tables.{nets_of}
use Rattle.par_tables.proofs.places.count_targets.Given as goal

abbrev pub invariant-loop-key : goal.invariant-loop-key
invariant-loop-key l = record {
  counted : l.count ≡ length (nets_of l.catalogue (take l.key-index l.keys));
  few : l.count ≤ l.key-index;
}
