use Rattle.std.proofs.Common.{◌∙◌, ◌+◌, ◌-◌, ◌*◌, ◌%◌, ◌^◌, ◌<◌, arith}
use Rattle.rs_policy.proofs.Judging.Spans.{last_of, span_covers}
use Rattle.rs_policy.proofs.config.indexed.span_of.Goals as goal

pub overflow_cast-last : goal.overflow_cast-last
overflow_cast-last c =
    let below : c.from.result + (1 * 2 ^ (32 - c.len-len.result) % 18446744073709551616 - 1) < 2 ^ 32 =
    last_of c.args.range.now.prefix _ _ c.len-len.ensures.prefix (c.from.ensures ∙ c.bits-low.ensures) c.len-len.ensures.value in
    omega arith

pub returns : goal.returns
returns c =
    span_covers c.args.range.now _ _ _ _ _ _ c.len-len.ensures.prefix c.bits-low.ensures (c.from.ensures ∙ c.bits-low.ensures) c.len-len.ensures.value
    c.new.ensures c.least.ensures.own c.least.ensures.said c.least.ensures.least
