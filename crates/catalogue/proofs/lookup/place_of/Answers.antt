use Rattle.std.proofs.Common.{rules}
use Rattle.std.proofs.lemmas.List.Sorted.{IsPartitionPoint-from_clause}
use Rattle.std.specs.Str.{bytes_eq}
use Rattle.catalogue.specs.Versions.{is_below}
use Rattle.catalogue.proofs.KeyLemmas.{IsOrder-versions, VersionLaws}
use Rattle.values.proofs.OrderedLemmas.{IsPartitionedBy-ascend, place_in-from_point, under}
use Rattle.catalogue.specs.declared.content.Release.{Release}
use Rattle.catalogue.proofs.lookup.place_of.Goals as goal

pub returns-clause-value : goal.returns-clause-value
returns-clause-value c =
    let key = λ (release : Release). release.version in
    let version = c.args.version.now in
    let laws : VersionLaws = record {
      irreflexive = c.order.ensures.irreflexive;
      transitive = c.order.ensures.transitive;
      total = c.order.ensures.total;
    } in
    let parted = IsPartitionedBy-ascend is_below bytes_eq key (IsOrder-versions laws) version c.args.releases.now c.requires in
    place_in-from_point is_below bytes_eq key version c.args.releases.now c.partition_point.result c.partition_point.ensures.bound
    (IsPartitionPoint-from_clause (under is_below bytes_eq key version) c.args.releases.now c.partition_point.result c.partition_point.ensures.partitioned parted (λ a r q k. search rules))
