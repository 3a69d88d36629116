use Rattle.std.proofs.Common.{sym, subst, arith}
use Rattle.std.proofs.lemmas.List.{drop_all}
use Rattle.rs_policy.specs.Configuration.{rules_in}
use Rattle.rs_policy.specs.Unasked.{AreAllPassedOver}
use Rattle.rs_policy.proofs.Judging.Unasked.{all_by_more, keeps_both, keeps_itself}
use Rattle.rs_policy.proofs.Judging.Written.{drop_here}
use Rattle.rs_policy.proofs.rules.asked.asked_of.Goals as goal

pub loop-item-preserved : goal.loop-item-preserved
loop-item-preserved c =
    let more = c.in_ok-marks.ensures in
    λ asked among rest.
    c.loop-item.invariant asked (keeps_both c.loop-item.marks c.in_ok-marks.marks asked more.kept among)
    (subst (AreAllPassedOver asked c.args.to_as c.args.shared.now) (sym (drop_here c.args.items.now c.loop-item.item-index c.item-item.result (omega arith) c.item-item.is))
    (all_by_more c.in_ok-marks.marks asked c.args.to_as (rules_in c.args.shared.now c.item-item.result) among more.passed_over, rest))

pub loop-item-init : goal.loop-item-init
loop-item-init c = λ asked among all. all

pub returns : goal.returns
returns c = c.loop-item.invariant c.loop-item.marks (keeps_itself c.loop-item.marks) (subst (AreAllPassedOver c.loop-item.marks c.args.to_as c.args.shared.now) (sym (drop_all c.loop-item.item-index c.args.items.now c.loop-item-test.false)) tt)
