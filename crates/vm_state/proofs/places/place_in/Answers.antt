use Rattle.std.proofs.Common.{ltb, ltb-true, ltb-false, ℕ, arith, rules}
use Rattle.std.proofs.lemmas.List.Sorted.{IsPartitionPoint-from_clause, IsPartitionedBy-ltb}
use Rattle.vm_state.proofs.places.place_in.Goals as goal

pub returns-clause-before : goal.returns-clause-before
returns-clause-before c =
    let parted = IsPartitionedBy-ltb (λ (n : ℕ). n) _ c.args.number c.requires in
    let point = IsPartitionPoint-from_clause (λ (n : ℕ). ltb n c.args.number) _ _
    c.partition_point.ensures.partitioned parted (λ a r q k. search rules) in
    λ i d h. ltb-true _ _ (point.0 i d (omega arith) h)

pub returns-clause-after : goal.returns-clause-after
returns-clause-after c =
    let parted = IsPartitionedBy-ltb (λ (n : ℕ). n) _ c.args.number c.requires in
    let point = IsPartitionPoint-from_clause (λ (n : ℕ). ltb n c.args.number) _ _
    c.partition_point.ensures.partitioned parted (λ a r q k. search rules) in
    λ d inside. ltb-false _ _ (point.1 _ d (omega arith) inside)
