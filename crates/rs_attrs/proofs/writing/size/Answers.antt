use Rattle.std.proofs.Common.{◌∙◌, arith}
use Rattle.rs_attrs.specs.Writing.{in_mode}
use Rattle.rs_attrs.proofs.Written.Parts.{count_all, count_next, count_done}
use Rattle.rs_attrs.proofs.writing.size.Goals as goal

pub loop-part-init : goal.loop-part-init
loop-part-init c = count_all c.args.mode c.args.attrs.now _ c.of-part-items.ensures.legal (c.into_iter-part-iterator.ensures.into_iter_gives ∙ c.of-part-items.ensures.value)

pub overflow_add-size : goal.overflow_add-size
overflow_add-size c =
    let next = count_next (in_mode c.args.mode c.args.attrs.now) _ c.next.new.self c.in-Some.part c.loop-part.size _ c.attribute_size-size.result c.loop-part.invariant c.in-Some.ensures.steps c.len.ensures.value c.len.ensures.most c.attribute_size-size.ensures in
    omega (arith, next.most)

pub loop-part-preserved : goal.loop-part-preserved
loop-part-preserved c =
    count_next (in_mode c.args.mode c.args.attrs.now) _ c.next.new.self c.in-Some.part c.loop-part.size _ c.attribute_size-size.result c.loop-part.invariant c.in-Some.ensures.steps c.len.ensures.value c.len.ensures.most c.attribute_size-size.ensures

pub returns : goal.returns
returns c = count_done (in_mode c.args.mode c.args.attrs.now) _ c.loop-part.size c.loop-part.invariant c.in-None.ensures.steps.0
