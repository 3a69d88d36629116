use Rattle.std.proofs.Common.{List, ◌∙◌, ap, sym, take}
use Rattle.rs_outlet.specs.declared.waiting.Wait.{Wait}
use Rattle.rs_outlet.proofs.Pending.MarkedAll.{in_whole, is_in}
use Rattle.rs_outlet.proofs.waiting.marking.add_row.Goals as goal

pub returns-then-has_prefix-clause-listed : goal.returns-then-has_prefix-clause-listed
returns-then-has_prefix-clause-listed c = λ _.
    let q = c.args.row.now.prefix in
    in_whole q c.args.waited c.args.slots.now.items
    (ap (λ (ws : List Wait). is_in (take c.args.waited ws) q) (sym c.deref.ensures.value) ∙ c.has_prefix.ensures.listed c.if-has_prefix.true)
