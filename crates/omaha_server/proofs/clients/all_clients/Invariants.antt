-- There are the connections of each port so far, and views for the others.
use Rattle.std.proofs.Common.{◌≡◌, ◌++◌, All, if◌then◌else◌, is_some, length, map}
use Rattle.std.specs.Vec.Iter.{into_iter_items, into_iter_len}
use Rattle.catalogue.specs.Histories.{History}
use Rattle.publisher.specs.Sights.{fresh}
use Rattle.omaha_server.specs.Jobs.{IsClients}
use Rattle.server_ports.specs.Logging.{those_of}
use Rattle.systems.specs.NewPorts.{IsNew}
use Rattle.omaha_server.proofs.clients.all_clients.Given as goal

abbrev pub invariant-loop-port : goal.invariant-loop-port
invariant-loop-port g l = record {
  rest : l.yielded ++ into_iter_items l.port-iterator ≡ into_iter_items l.initial.port-iterator;
  count : into_iter_len l.port-iterator ≡ length (into_iter_items l.port-iterator);
  left : length l.views.items ≡ length (into_iter_items l.port-iterator);
  new : All (IsNew g.P.Port.terms g.P.Port.slots g.P.Port.accepted g.P.Port.is_over) (into_iter_items l.port-iterator);
  ports : map (λ job. job.port) l.jobs.items ≡ l.yielded;
  jobs : (history : History) → All (λ sight. sight ≡ fresh history) l.fn.views.items
      → All (λ sight. sight ≡ fresh history) l.views.items × All (IsClients l.setup (fresh history)) l.jobs.items;
  lines : those_of (map (λ job. job.lines) l.jobs.items) ++ into_iter_items l.senders ≡ l.fn.senders.items;
  lined : All (λ line. is_some line ≡ is_some l.setup.place.now.log) (map (λ job. job.lines) l.jobs.items);
  sized : into_iter_len l.senders ≡ length (into_iter_items l.senders);
  others : into_iter_len l.senders
      ≡ (if is_some l.setup.place.now.log then length (into_iter_items l.port-iterator) else 0);
}
