use Rattle.std.proofs.Common.{not, rules}
use Rattle.std.proofs.lemmas.List.Sorted.{IsPartitionPoint-from_clause}
use Rattle.catalogue.specs.Versions.{is_below}
use Rattle.catalogue.specs.declared.content.Release.{Release}
use Rattle.quotes.proofs.WindowLemmas.{IsPartitionedBy-not_above, not-false, not-true}
use Rattle.quotes.proofs.outside.count_up_to.Goals as goal

pub returns-clause-before : goal.returns-clause-before
returns-clause-before c =
    let test = λ (release : Release). not (is_below c.args.version.now release.version) in
    let parted = IsPartitionPoint-from_clause test c.args.releases.now c.partition_point.result c.partition_point.ensures.partitioned
    (IsPartitionedBy-not_above c.order.ensures.transitive c.args.version.now c.args.releases.now c.requires) (λ a r q k. search rules) in
    λ k d low less. not-true _ (parted.0 k d low less)

pub returns-clause-behind : goal.returns-clause-behind
returns-clause-behind c =
    let test = λ (release : Release). not (is_below c.args.version.now release.version) in
    let parted = IsPartitionPoint-from_clause test c.args.releases.now c.partition_point.result c.partition_point.ensures.partitioned
    (IsPartitionedBy-not_above c.order.ensures.transitive c.args.version.now c.args.releases.now c.requires) (λ a r q k. search rules) in
    λ k d low less. not-false _ (parted.1 k d low less)
