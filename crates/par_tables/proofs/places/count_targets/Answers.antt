use Rattle.std.proofs.Common.{◌≡◌, ◌∷◌, [], get_or, length, ap, ◌∙◌, arith}
use Rattle.payload_graph.specs.declared.payload.TrackKey.{TrackKey}
use Rattle.par_tables.specs.Tables.{nets_of}
use Rattle.par_tables.proofs.CountLemmas.{length_more}
use Rattle.par_tables.proofs.places.count_targets.Goals as goal

pub loop-key-preserved : goal.loop-key-preserved
loop-key-preserved c =
    let apps = c.args.catalogue.now in
    let keys = c.args.keys.now in
    let index = c.loop-key.key-index in
    let key = c.key-item.result in
    let more = length_more apps keys index key c.loop-key-test.true in
    let before = c.loop-key.invariant.counted in
    let few = c.loop-key.invariant.few in
    let own : c.count_target-count.result ≡ length (nets_of apps (get_or keys index key ∷ [])) =
    c.count_target-count.ensures.value ∙ ap (λ (k : TrackKey). length (nets_of apps (k ∷ []))) c.key-item.is in
    let one = c.count_target-count.ensures.few in
    record { counted = omega arith; few = omega arith }
