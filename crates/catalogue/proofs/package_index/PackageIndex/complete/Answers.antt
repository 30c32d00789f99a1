use Rattle.std.proofs.Common.{◌≡◌, ◌+◌, ◌++◌, ◌∷◌, [], ◌∙◌, List, ap, length, map}
use Rattle.std.specs.Arc.{arc_value}
use Rattle.std.proofs.lemmas.List.{length-append, map-append}
use Rattle.catalogue.proofs.ShardLemmas.{found_among-push}
use Rattle.catalogue.specs.PackageIndex.{found_among}
use Rattle.catalogue.specs.declared.package_index.Shard.{Shard}
use Rattle.catalogue.proofs.package_index.PackageIndex.complete.Goals as goal

pub loop-preserved : goal.loop-preserved
loop-preserved c =
    let shards = c.loop.self.shards.items in
    let pushed : map arc_value c.push.new.self.items ≡ map arc_value shards ++ c.empty.result ∷ [] =
    ap (map arc_value) c.in_ok-push.ensures.items
    ∙ map-append arc_value shards (c.in_ok-shard.shard ∷ [])
    ∙ ap (λ (it : Shard). map arc_value shards ++ it ∷ []) c.in_ok-shard.ensures.ok in
    record {
      found = λ name.
          ap (λ (all : List Shard). found_among all name) pushed
          ∙ found_among-push (map arc_value shards) c.empty.result name (c.empty.ensures name)
          ∙ c.loop.invariant.found name;
      count = ap length c.in_ok-push.ensures.items ∙ length-append shards (c.in_ok-shard.shard ∷ []) ∙ ap (λ n. n + 1) c.loop.invariant.count;
    }
