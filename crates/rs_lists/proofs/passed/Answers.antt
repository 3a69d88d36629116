use Rattle.std.proofs.Common.{ℕ, nat_le, arith, rules}
use Rattle.std.proofs.lemmas.Bool.{leb-true, leb-false}
use Rattle.std.proofs.lemmas.List.Sorted.{IsPartitionPoint-from_clause, IsPartitionedBy-leb}
use Rattle.rs_lists.proofs.passed.Goals as goal

pub returns-clause-before : goal.returns-clause-before
returns-clause-before c k within =
    let part = IsPartitionPoint-from_clause (λ (s : ℕ). nat_le s c.args.n) c.args.signs.now c.partition_point.result c.partition_point.ensures.partitioned
    (IsPartitionedBy-leb (λ (s : ℕ). s) c.args.signs.now c.args.n c.requires) (λ a r f k. search rules) in
    leb-true _ _ (part.0 k 0 (omega arith) within)

pub returns-clause-after : goal.returns-clause-after
returns-clause-after c k from within =
    let part = IsPartitionPoint-from_clause (λ (s : ℕ). nat_le s c.args.n) c.args.signs.now c.partition_point.result c.partition_point.ensures.partitioned
    (IsPartitionedBy-leb (λ (s : ℕ). s) c.args.signs.now c.args.n c.requires) (λ a r f k. search rules) in
    leb-false _ _ (part.1 k 0 from within)
