use Rattle.std.proofs.Common.{◌<◌, length, nat_lt, arith, rules}
use Rattle.std.proofs.lemmas.List.Sorted.{IsPartitionPoint-from_clause, IsPartitionedBy-ltb}
use Rattle.rs_decision.specs.declared.exits.Exit.{Exit}
use Rattle.rs_decision.specs.Choice.{med_of}
use Rattle.rs_decision.proofs.Grouped.{past_all, lowest_tells, lowest_is, lowest_is_not}
use Rattle.rs_decision.proofs.exits.has_lower.Goals as goal

pub returns-then-start-exits : goal.returns-then-start-exits
returns-then-start-exits c =
    let part = IsPartitionPoint-from_clause (λ (e : Exit). nat_lt e.neighbour c.args.rank.now.neighbour) c.args.exits.now c.partition_point-start.result c.partition_point-start.ensures.partitioned
    (IsPartitionedBy-ltb (λ (e : Exit). e.neighbour) c.args.exits.now c.args.rank.now.neighbour c.requires.neighbours) (λ a r f k. search rules) in
    past_all c.args.exits.now c.args.rank.now c.partition_point-start.result c.requires part.0 (omega (arith, c.if-start-exits.true))

pub returns-then-lowest-rank : goal.returns-then-lowest-rank
returns-then-lowest-rank c =
    let part = IsPartitionPoint-from_clause (λ (e : Exit). nat_lt e.neighbour c.args.rank.now.neighbour) c.args.exits.now c.partition_point-start.result c.partition_point-start.ensures.partitioned
    (IsPartitionedBy-ltb (λ (e : Exit). e.neighbour) c.args.exits.now c.args.rank.now.neighbour c.requires.neighbours) (λ a r f k. search rules) in
    let within : c.partition_point-start.result < length c.args.exits.now = omega (arith, c.partition_point-start.ensures.bound, c.if-start-exits.false) in
    lowest_tells c.args.exits.now c.args.rank.now c.partition_point-start.result (record { neighbour = 0; med = 0 }) c.requires part.0 part.1 within _
    (lowest_is _ _ _ (med_of c.args.rank.now) c.med_of.result c.if-lowest-rank.true c.med_of.ensures)

pub returns-else-lowest-rank : goal.returns-else-lowest-rank
returns-else-lowest-rank c =
    let part = IsPartitionPoint-from_clause (λ (e : Exit). nat_lt e.neighbour c.args.rank.now.neighbour) c.args.exits.now c.partition_point-start.result c.partition_point-start.ensures.partitioned
    (IsPartitionedBy-ltb (λ (e : Exit). e.neighbour) c.args.exits.now c.args.rank.now.neighbour c.requires.neighbours) (λ a r f k. search rules) in
    let within : c.partition_point-start.result < length c.args.exits.now = omega (arith, c.partition_point-start.ensures.bound, c.if-start-exits.false) in
    lowest_tells c.args.exits.now c.args.rank.now c.partition_point-start.result (record { neighbour = 0; med = 0 }) c.requires part.0 part.1 within _
    (lowest_is_not _ _ _ (med_of c.args.rank.now) c.if-lowest-rank.false)
