use Rattle.std.proofs.Common.{[], ◌∷◌, ◌∙◌, subst}
use Rattle.payload_graph.specs.declared.payload.TrackKey.{TrackKey}
use Rattle.par_tables.proofs.ListingLemmas.{Adds-more}
use Rattle.par_tables.specs.Tables.{Adds}
use Rattle.par_tables.proofs.cache.TableCache.tables_of.Goals as goal

pub loop-key-preserved : goal.loop-key-preserved
loop-key-preserved c = record {
  adds =
      Adds-more c.args.catalogue.now c.args.keys.now c.loop-key.key-index c.key-item.result [] c.loop-key.tables.items c.push_table.new.tables.items c.loop-key-test.true
      c.loop-key.invariant.adds
      (subst (λ (key : TrackKey). Adds c.args.catalogue.now (key ∷ []) c.loop-key.tables.items c.push_table.new.tables.items) c.key-item.is c.in_ok-push_table.ensures.table);
  own = c.push_table.ensures.own;
  capacity = c.push_table.ensures.capacity ∙ c.loop-key.invariant.capacity;
  resolved = c.push_table.ensures.resolved;
}
