-- The senders so far are those that were gone over, and the others have sent nothing.
use Rattle.std.proofs.Common.{◌≡◌, ◌++◌, All, length}
use Rattle.std.specs.Vec.Iter.{into_iter_items, into_iter_len}
use Rattle.access_logs.specs.Logs.{IsFresh}
use Rattle.server_ports.proofs.logging.all_new.Given as goal

abbrev pub invariant-loop-sender : goal.invariant-loop-sender
invariant-loop-sender l = record {
  rest : l.yielded ++ into_iter_items l.sender-iterator ≡ into_iter_items l.initial.sender-iterator;
  count : into_iter_len l.sender-iterator ≡ length (into_iter_items l.sender-iterator);
  made : l.made.items ≡ l.yielded;
  fresh : All IsFresh (into_iter_items l.sender-iterator);
}
