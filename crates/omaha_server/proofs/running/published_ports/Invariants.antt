-- The ports so far are those of the workers that were gone over, whose views may enter what is published.
use Rattle.std.proofs.Common.{◌≡◌, ◌++◌, All, length, map}
use Rattle.std.specs.Vec.Iter.{into_iter_items, into_iter_len}
use Rattle.publisher.specs.Sights.{Allows}
use Rattle.server_ports.specs.Logging.{those_of}
use Rattle.omaha_server.proofs.running.published_ports.Given as goal

abbrev pub invariant-loop-visited : goal.invariant-loop-visited
invariant-loop-visited g l = record {
  rest : l.yielded ++ into_iter_items l.visited-iterator ≡ into_iter_items l.initial.visited-iterator;
  count : into_iter_len l.visited-iterator ≡ length (into_iter_items l.visited-iterator);
  ports : l.kept.ports.items ≡ map (λ visited. visited.served.port) l.yielded;
  log : l.kept.log.items ≡ those_of (map (λ visited. visited.served.log) l.yielded);
  allowed : All (λ visited. Allows visited.view l.left) l.yielded;
}
