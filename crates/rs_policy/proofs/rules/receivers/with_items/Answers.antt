use Rattle.std.proofs.Common.{sym, subst, arith}
use Rattle.std.proofs.lemmas.List.{drop_all}
use Rattle.rs_policy.specs.Configuration.{rules_in}
use Rattle.rs_policy.specs.Unasked.{AreAllNotAskedOf}
use Rattle.rs_policy.proofs.Judging.Unasked.{all_not_asked_by_more, keeps_both, keeps_itself}
use Rattle.rs_policy.proofs.Judging.Written.{drop_here}
use Rattle.rs_policy.proofs.rules.receivers.with_items.Goals as goal

pub loop-item-preserved : goal.loop-item-preserved
loop-item-preserved c =
    let more = c.with_item-asked.ensures in
    λ asked among rest.
    c.loop-item.invariant asked (keeps_both c.loop-item.asked c.with_item-asked.result asked more.kept among)
    (subst (AreAllNotAskedOf asked c.args.shared.now) (sym (drop_here c.args.items.now c.loop-item.item-index c.item-item.result (omega arith) c.item-item.is))
    (all_not_asked_by_more c.with_item-asked.result asked (rules_in c.args.shared.now c.item-item.result) among more.unasked, rest))

pub loop-item-init : goal.loop-item-init
loop-item-init c = λ asked among all. all

pub returns : goal.returns
returns c = c.loop-item.invariant c.loop-item.asked (keeps_itself c.loop-item.asked) (subst (AreAllNotAskedOf c.loop-item.asked c.args.shared.now) (sym (drop_all c.loop-item.item-index c.args.items.now c.loop-item-test.false)) tt)
