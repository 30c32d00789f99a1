-- The tills and the ends so far are of what was gone over.
use Rattle.std.proofs.Common.{◌≡◌, ◌++◌, length, map}
use Rattle.std.specs.Vec.Iter.{into_iter_items, into_iter_len}
use Rattle.mirror_ledger.specs.Running.{end_of, till_of}
use Rattle.mirror_ledger.proofs.running.split.Given as goal

abbrev pub invariant-loop-ran : goal.invariant-loop-ran
invariant-loop-ran g l = record {
  rest : l.yielded ++ into_iter_items l.ran-iterator ≡ into_iter_items l.initial.ran-iterator;
  count : into_iter_len l.ran-iterator ≡ length (into_iter_items l.ran-iterator);
  tills : l.tills.items ≡ map till_of l.yielded;
  ends : l.ends.items ≡ map end_of l.yielded;
}
