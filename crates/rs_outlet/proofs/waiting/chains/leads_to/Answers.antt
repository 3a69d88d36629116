use Rattle.std.proofs.Common.{◌∙◌, ap, arith, inr, sym}
use Rattle.rs_attrs.specs.Comparing.{attributes_cmp}
use Rattle.rs_outlet.specs.Pending.Chains.{due_by}
use Rattle.rs_outlet.proofs.Pending.Chains.{level_is, not_less}
use Rattle.rs_outlet.proofs.waiting.chains.leads_to.Goals as goal

pub returns-in-Less-clause-leads : goal.returns-in-Less-clause-leads
returns-in-Less-clause-leads c = λ _ same.
    let here = due_by c.args.exact c.args.rows.now.rows.items c.args.slots.now c.args.entry.now in
    absurd (not_less here (ap (attributes_cmp here) (sym same) ∙ sym c.in_ok-compare_by.ensures ∙ c.in-Less.is))

pub returns-then-entry-next-3-clause-rises : goal.returns-then-entry-next-3-clause-rises
returns-then-entry-next-3-clause-rises c = λ _.
    let here = due_by c.args.exact c.args.rows.now.rows.items c.args.slots.now c.args.entry.now in
    let there = due_by c.args.exact c.args.rows.now.rows.items c.args.slots.now c.args.next.now in
    inr (omega (arith, c.if-entry-next-2.false), inr (level_is here there (sym c.in_ok-compare_by.ensures ∙ c.in-Equal.is), c.if-entry-next-3.true))
