use Rattle.rs_attrs.proofs.Paths.Widening.{on_ok, widened_segment}
use Rattle.rs_attrs.proofs.reading.two.push_segment.Goals as goal

pub returns : goal.returns
returns c =
    on_ok c.push_widened.result _ _
    (widened_segment c.args.values.now.items c.args.numbers.now c.extend_from_slice.new.self.items c.push_widened.new.values.items c.args.kind c.args.count c.requires c.in_ok-extend_from_slice.ensures.items)
    c.push_widened.ensures
