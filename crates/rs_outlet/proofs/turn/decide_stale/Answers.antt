use Rattle.std.proofs.Common.{arith}
use Rattle.rs_outlet.specs.Decided.Due.{any_holds}
use Rattle.rs_outlet.specs.Decided.HeldBy.{held_by}
use Rattle.rs_outlet.proofs.Decided.Left.{all_left, as_set}
use Rattle.rs_outlet.proofs.turn.decide_stale.Goals as goal

pub returns-clause-all : goal.returns-clause-all
returns-clause-all c = λ are fresh whole.
    all_left c.args.sources.now.config.now c.args.sources.now.ins.now c.args.rows.now.rows.items c.args.sources.now.client c.args.speech c.args.touched.now are
    c.held_prefixes-held.result c.count_left.result c.in-Some.count c.requires.once
    (as_set (any_holds (held_by c.args.sources.now)) c.held_prefixes-held.result c.held_prefixes-held.ensures) (c.count_left.ensures are) (omega arith) fresh
