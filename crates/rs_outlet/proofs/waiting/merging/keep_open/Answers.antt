use Rattle.std.proofs.Common.{◌∙◌, sym}
use Rattle.rs_outlet.proofs.Pending.NoneOpen.{none_still}
use Rattle.rs_outlet.proofs.waiting.merging.keep_open.Goals as goal

pub returns-then-waiting-eq0-clause-items : goal.returns-then-waiting-eq0-clause-items
returns-then-waiting-eq0-clause-items c = c.clear.ensures.items ∙ sym (none_still c.args.slots.now.items (c.requires ∙ c.if-waiting-eq0.true))
