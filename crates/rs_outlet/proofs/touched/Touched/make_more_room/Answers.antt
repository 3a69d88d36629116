use Rattle.std.proofs.Common.{◌<◌, length, arith}
use Rattle.rs_outlet.proofs.Decided.TouchedList.{longer_numbered, longer_stale, longer_touched, same_touched, stale_same}
use Rattle.std.proofs.Common.{inl}
use Rattle.rs_outlet.proofs.touched.Touched.make_more_room.Goals as goal

pub returns-then-len-capacity-clause-touched : goal.returns-then-len-capacity-clause-touched
returns-then-len-capacity-clause-touched c = λ ins h.
    let many : 4096 < length c.put_in_order.new.touches.items = omega arith in
    longer_touched ins c.args.self.now.prefixes.items c.put_in_order.new.touches.items c.put_in_order.ensures.once h c.args.self.now.all c.lengthen.new.self.all c.lengthen.new.self.prefixes.items many c.lengthen.ensures.kept

pub returns-then-len-capacity-clause-stale : goal.returns-then-len-capacity-clause-stale
returns-then-len-capacity-clause-stale c = λ ins h.
    longer_stale ins c.args.self.now.prefixes.items c.put_in_order.new.touches.items c.put_in_order.ensures.once h c.args.self.now.all c.lengthen.new.self.all c.lengthen.new.self.prefixes.items c.lengthen.ensures.kept

pub returns-then-len-capacity-clause-numbered : goal.returns-then-len-capacity-clause-numbered
returns-then-len-capacity-clause-numbered c = λ ins h.
    longer_numbered ins c.args.self.now.prefixes.items c.put_in_order.new.touches.items c.put_in_order.ensures.once h c.args.self.now.all c.lengthen.new.self.all c.lengthen.new.self.prefixes.items c.lengthen.ensures.kept

pub returns-else-len-capacity-clause-touched : goal.returns-else-len-capacity-clause-touched
returns-else-len-capacity-clause-touched c = λ ins h.
    same_touched ins c.args.self.now.prefixes.items c.put_in_order.new.touches.items c.put_in_order.ensures.once h c.args.self.now.all

pub returns-else-len-capacity-clause-stale : goal.returns-else-len-capacity-clause-stale
returns-else-len-capacity-clause-stale c = λ ins h.
    inl (stale_same ins c.args.self.now.prefixes.items c.put_in_order.new.touches.items c.put_in_order.ensures.once h c.args.self.now.all)
