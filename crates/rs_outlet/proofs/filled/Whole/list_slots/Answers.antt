use Rattle.std.proofs.Common.{◌∙◌, arith}
use Rattle.rs_outlet.specs.Decided.Plans.{news_within}
use Rattle.rs_outlet.proofs.Pending.Pieces.{sixteen, slots_all, slots_many, slots_more}
use Rattle.rs_outlet.proofs.filled.Whole.list_slots.Goals as goal

pub list_slot-requires-clause-room : goal.list_slot-requires-clause-room
list_slot-requires-clause-room c =
    let w = c.args.self.now in
    let inv = c.loop-index.invariant in
    let many = slots_many (news_within w) c.loop-index.index c.args.fresh.now.items c.loop-index.fresh.items (omega (arith, sixteen w, c.loop-index-test.true)) inv.items in
    omega (arith, many, inv.capacity, c.requires, c.loop-index-test.true, c.loop-index.fresh.ok, c.args.fresh.now.ok)

pub loop-index-preserved : goal.loop-index-preserved
loop-index-preserved c =
    let w = c.args.self.now in
    let inv = c.loop-index.invariant in
    record {
      items = slots_more (news_within w) c.loop-index.index c.args.fresh.now.items c.loop-index.fresh.items c.list_slot.new.fresh.items (omega (arith, sixteen w, c.loop-index-test.true)) inv.items c.list_slot.ensures.items;
      capacity = c.list_slot.ensures.capacity ∙ inv.capacity;
    }

pub returns-clause-items : goal.returns-clause-items
returns-clause-items c =
    let w = c.args.self.now in
    slots_all (news_within w) c.loop-index.index c.args.fresh.now.items c.loop-index.fresh.items (omega (arith, sixteen w, c.loop-index-test.false)) c.loop-index.invariant.items
