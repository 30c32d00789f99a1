use Rattle.std.proofs.Common.{◌≡◌, ◌+◌, [], All, length}
use Rattle.std.specs.List.{AllZip}
use Rattle.rtrb.specs.Ring.{consumer_capacity, received}
use Rattle.access_logs.specs.Queues.{AreEnds, IsOpened}
use Rattle.access_logs.proofs.queues.opening.open_rings.Given as goal

abbrev pub invariant-loop : goal.invariant-loop
invariant-loop l =
    record {
      many : length l.senders.items ≡ l.counter;
      fresh : All (IsOpened l.bytes) l.senders.items;
      ends : AllZip (λ sender end. AreEnds sender.end end) l.senders.items l.rings.items;
      unread : All (λ end. received end ≡ []) l.rings.items;
      capacity : All (λ end. consumer_capacity end ≡ l.bytes + 61) l.rings.items;
    }
