use Rattle.std.proofs.Common.{rules}
use Rattle.std.proofs.lemmas.List.Sorted.{IsPartitionPoint-from_clause}
use Rattle.catalogue.proofs.KeyLemmas.{IsOrder-pairs, VersionLaws}
use Rattle.values.proofs.OrderedLemmas.{IsPartitionedBy-ascend, place_in-from_point, under}
use Rattle.catalogue.specs.Lookups.{Pair, is_pair_below, pair_of, same_pair}
use Rattle.catalogue.specs.declared.content.Diff.{Diff}
use Rattle.catalogue.proofs.lookup.place_of_pair.Goals as goal

pub returns-clause-value : goal.returns-clause-value
returns-clause-value c =
    let key = λ (diff : Diff). pair_of diff in
    let pair : Pair = (c.args.from.now, c.args.to.now) in
    let laws : VersionLaws = record {
      irreflexive = c.order.ensures.irreflexive;
      transitive = c.order.ensures.transitive;
      total = c.order.ensures.total;
    } in
    let parted = IsPartitionedBy-ascend is_pair_below same_pair key (IsOrder-pairs laws) pair c.args.diffs.now c.requires in
    place_in-from_point is_pair_below same_pair key pair c.args.diffs.now c.partition_point.result c.partition_point.ensures.bound
    (IsPartitionPoint-from_clause (under is_pair_below same_pair key pair) c.args.diffs.now c.partition_point.result c.partition_point.ensures.partitioned parted (λ a r q k. search rules))
