use Rattle.std.proofs.Common.{ltb, rules}
use Rattle.std.proofs.lemmas.Bool.{ltb-false, ltb-true}
use Rattle.std.proofs.lemmas.List.Sorted.{IsPartitionPoint-from_clause, IsPartitionedBy-ltb}
use Rattle.payload_graph.specs.declared.edge.Edge.{Edge}
use Rattle.payload_graph.proofs.differential.start_of.Goals as goal

pub returns-clause-before : goal.returns-clause-before
returns-clause-before c =
    let parted = IsPartitionPoint-from_clause (λ (edge : Edge). ltb edge.from c.args.from) c.args.differs.now c.partition_point.result c.partition_point.ensures.partitioned (IsPartitionedBy-ltb (λ (edge : Edge). edge.from) c.args.differs.now c.args.from c.requires) (λ a r q k. search rules) in
    λ k d low less. ltb-true _ _ (parted.0 k d low less)

pub returns-clause-behind : goal.returns-clause-behind
returns-clause-behind c =
    let parted = IsPartitionPoint-from_clause (λ (edge : Edge). ltb edge.from c.args.from) c.args.differs.now c.partition_point.result c.partition_point.ensures.partitioned (IsPartitionedBy-ltb (λ (edge : Edge). edge.from) c.args.differs.now c.args.from c.requires) (λ a r q k. search rules) in
    λ k d low less. ltb-false _ _ (parted.1 k d low less)
