use Rattle.std.proofs.Common.{◌≡◌, Some, get_or, length, refl}
use Rattle.std.specs.Prelude.{slice_get}
use Rattle.std.proofs.lemmas.List.{get_or_default}
use Rattle.std.proofs.lemmas.Option.{slice_get_read}
use Rattle.rs_outlet.specs.Pending.Chains.{due_by}
use Rattle.rs_outlet.proofs.Pending.Chains.{linked_more, rise_more}
use Rattle.rs_outlet.proofs.waiting.chains.chain_one.Goals as goal

pub returns-in-Some-get_mut-clause-rises : goal.returns-in-Some-get_mut-clause-rises
returns-in-Some-get_mut-clause-rises c = λ _. rise_more (due_by c.args.exact c.args.rows.now.rows.items c.args.slots.now) c.args.order.now c.args.place (c.in-Some.ensures.rises refl)

pub returns-in_default-get_mut-clause-rises : goal.returns-in_default-get_mut-clause-rises
returns-in_default-get_mut-clause-rises c = λ _. rise_more (due_by c.args.exact c.args.rows.now.rows.items c.args.slots.now) c.args.order.now c.args.place (c.in-Some.ensures.rises refl)

pub returns-in-Some-get_mut-clause-linked : goal.returns-in-Some-get_mut-clause-linked
returns-in-Some-get_mut-clause-linked c =
    let es = c.args.order.now in
    let ls = c.args.chains.now.items in
    let e = get_or es c.args.place (record { key = 0; slot = 0 }) in
    let at : slice_get es c.args.place ≡ Some e = slice_get_read es (length es) c.args.place e refl c.requires (get_or_default es c.args.place (record { key = 0; slot = 0 }) e c.requires) in
    linked_more (due_by c.args.exact c.args.rows.now.rows.items c.args.slots.now) es ls c.args.place e.slot c.in-Some.chain c.in-Some-get_mut.at.now e at refl
    (slice_get_read ls (length ls) e.slot c.in-Some-get_mut.at.now refl c.in-Some-get_mut.ensures.item.3.0 c.in-Some-get_mut.ensures.item.1)
    (λ f f_at. c.in-Some.ensures.leads e f at f_at)
