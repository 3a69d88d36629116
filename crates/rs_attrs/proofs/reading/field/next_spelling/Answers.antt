use Rattle.std.proofs.Common.{take, drop, refl, ap, ◌∙◌}
use Rattle.rs_attrs.proofs.Fields.Walk.{step_by}
use Rattle.rs_attrs.proofs.reading.field.next_spelling.Goals as goal

pub returns-clause-step : goal.returns-clause-step
returns-clause-step c =
    step_by c.args.octets.now c.in_ok-flags.octets.now c.split_at-2.result.0.now c.split_at-2.result.1.now c.in_ok-flags.field-0-0.now _ c.size_of_head-head.result c.size_of_value-size.result
    c.in_ok-flags.ensures.cases.0 refl c.size_of_head-head.ensures.value c.size_of_value-size.ensures.value c.if-octets-head-2.false
    (c.split_at-2.ensures.front ∙ ap (take c.size_of_value-size.result) c.split_at.ensures.back)
    (c.split_at-2.ensures.back ∙ ap (drop c.size_of_value-size.result) c.split_at.ensures.back)
