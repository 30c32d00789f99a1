use Rattle.std.proofs.Common.{leb, rules}
use Rattle.std.proofs.lemmas.Bool.{leb-false, leb-true}
use Rattle.std.proofs.lemmas.List.Sorted.{IsPartitionPoint-from_clause, IsPartitionedBy-leb}
use Rattle.payload_graph.proofs.origin.first_origin.Goals as goal

pub returns-clause-before : goal.returns-clause-before
returns-clause-before c =
    let parted = IsPartitionPoint-from_clause (λ reach. leb reach c.args.to) c.args.reaches.now c.partition_point.result c.partition_point.ensures.partitioned (IsPartitionedBy-leb (λ reach. reach) c.args.reaches.now c.args.to c.requires) (λ a r q k. search rules) in
    λ k d low less. leb-true _ _ (parted.0 k d low less)

pub returns-clause-behind : goal.returns-clause-behind
returns-clause-behind c =
    let parted = IsPartitionPoint-from_clause (λ reach. leb reach c.args.to) c.args.reaches.now c.partition_point.result c.partition_point.ensures.partitioned (IsPartitionedBy-leb (λ reach. reach) c.args.reaches.now c.args.to c.requires) (λ a r q k. search rules) in
    λ k d low less. leb-false _ _ (parted.1 k d low less)
