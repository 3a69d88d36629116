use Rattle.std.proofs.Common.{length, subst, sym}
use Rattle.rs_adjin.specs.AdjIns.{set_of}
use Rattle.rs_outlet.specs.Pending.Chains.{AreKeyed}
use Rattle.rs_outlet.proofs.Pending.Chains.{keyed_again, linked_by_hash, linked_chained}
use Rattle.rs_outlet.proofs.waiting.chains.chain_slots.Goals as goal

pub returns-else-not-chain_all-clause-chained : goal.returns-else-not-chain_all-clause-chained
returns-else-not-chain_all-clause-chained c =
    let ws = c.args.slots.now in
    let rows = c.args.rows.now.rows.items in
    let keyed = keyed_again c.args.exact (set_of c.args.ins.now) rows ws (length ws) c.list_all.new.order.items c.put_keyed_in_order.new.order.items c.put_keyed_in_order.ensures (c.list_all.ensures c.if-not-list_all.false) in
    linked_chained c.args.exact (set_of c.args.ins.now) rows ws c.deref.result.now c.chain_all.new.chains.items
    (subst (AreKeyed c.args.exact (set_of c.args.ins.now) rows ws (length ws)) (sym c.deref.ensures.value) keyed) (c.chain_all.ensures.rise c.if-not-chain_all.false) (c.chain_all.ensures.linked c.if-not-chain_all.false)

pub returns-else-not-chain_all-clause-by_hash : goal.returns-else-not-chain_all-clause-by_hash
returns-else-not-chain_all-clause-by_hash c =
    let ws = c.args.slots.now in
    let rows = c.args.rows.now.rows.items in
    let keyed = keyed_again c.args.exact (set_of c.args.ins.now) rows ws (length ws) c.list_all.new.order.items c.put_keyed_in_order.new.order.items c.put_keyed_in_order.ensures (c.list_all.ensures c.if-not-list_all.false) in
    linked_by_hash c.args.exact (set_of c.args.ins.now) rows ws c.deref.result.now c.chain_all.new.chains.items
    (subst (AreKeyed c.args.exact (set_of c.args.ins.now) rows ws (length ws)) (sym c.deref.ensures.value) keyed) (c.chain_all.ensures.rise c.if-not-chain_all.false) (c.chain_all.ensures.linked c.if-not-chain_all.false)
