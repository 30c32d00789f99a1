-- The ends so far are those of the results that were gone over.
use Rattle.std.proofs.Common.{◌≡◌, ◌++◌, Ok, length, map}
use Rattle.std.specs.Vec.Iter.{into_iter_items, into_iter_len}
use Rattle.omaha_server.proofs.running.all_ends.Given as goal

abbrev pub invariant-loop-result : goal.invariant-loop-result
invariant-loop-result g l = record {
  rest : l.yielded ++ into_iter_items l.result-iterator ≡ into_iter_items l.initial.result-iterator;
  count : into_iter_len l.result-iterator ≡ length (into_iter_items l.result-iterator);
  ends : map Ok l.all.items ≡ l.yielded;
}
