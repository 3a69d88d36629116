use Rattle.std.proofs.Common.{sym, subst, arith}
use Rattle.std.proofs.lemmas.List.{drop_all}
use Rattle.rs_policy.specs.Unasked.{AreNotAskedOf}
use Rattle.rs_policy.proofs.Judging.Unasked.{keeps_both, keeps_itself, not_asked_by_more}
use Rattle.rs_policy.proofs.Judging.Written.{drop_here}
use Rattle.rs_policy.proofs.rules.receivers.with_rules.Goals as goal

pub loop-rule-preserved : goal.loop-rule-preserved
loop-rule-preserved c =
    let more = c.with_rule-asked.ensures in
    record {
      kept = keeps_both c.args.before c.loop-rule.asked c.with_rule-asked.result c.loop-rule.invariant.kept more.kept;
      all = λ asked among rest.
          c.loop-rule.invariant.all asked (keeps_both c.loop-rule.asked c.with_rule-asked.result asked more.kept among)
          (subst (AreNotAskedOf asked) (sym (drop_here c.args.rules.now c.loop-rule.rule-index c.rule-item.result (omega arith) c.rule-item.is))
          (not_asked_by_more c.with_rule-asked.result asked c.rule-item.result among more.unasked, rest));
    }

pub loop-rule-init : goal.loop-rule-init
loop-rule-init c = record { kept = keeps_itself c.args.before; all = λ asked among all. all }

pub returns : goal.returns
returns c = record {
  kept = c.loop-rule.invariant.kept;
  unasked = c.loop-rule.invariant.all c.loop-rule.asked (keeps_itself c.loop-rule.asked) (subst (AreNotAskedOf c.loop-rule.asked) (sym (drop_all c.loop-rule.rule-index c.args.rules.now c.loop-rule-test.false)) tt);
}
