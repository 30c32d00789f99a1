use Rattle.std.proofs.Common.{◌≡◌, [], IfSome, take}
use Rattle.payload_graph.specs.Net.{resolved_at}
use Rattle.par_tables.specs.Caches.{AreOwnTables}
use Rattle.par_tables.specs.Tables.{Adds}
use Rattle.par_tables.proofs.cache.TableCache.tables_of.Given as goal

abbrev pub invariant-loop-key : goal.invariant-loop-key
invariant-loop-key l = record {
  adds : Adds l.catalogue (take l.key-index l.keys) [] l.tables.items;
  own : AreOwnTables l.catalogue l.self.tables;
  capacity : l.self.capacity ≡ l.fn.self.capacity;
  resolved : IfSome l.resolved (λ known. known.differentials ≡ resolved_at l.catalogue known.app);
}
