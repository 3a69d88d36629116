use Rattle.std.proofs.Common.{sym, subst, arith}
use Rattle.std.proofs.lemmas.List.{drop_all}
use Rattle.rs_policy.specs.Unasked.{ArePassedOver}
use Rattle.rs_policy.proofs.Judging.Unasked.{keeps_both, keeps_itself, passed_by_more}
use Rattle.rs_policy.proofs.Judging.Written.{drop_here}
use Rattle.rs_policy.proofs.rules.asked.with_asked_among.Goals as goal

pub loop-rule-preserved : goal.loop-rule-preserved
loop-rule-preserved c =
    let more = c.in_ok-marks.ensures in
    record {
      kept = keeps_both c.args.before c.loop-rule.marks c.in_ok-marks.marks c.loop-rule.invariant.kept more.kept;
      all = λ asked among rest.
          c.loop-rule.invariant.all asked (keeps_both c.loop-rule.marks c.in_ok-marks.marks asked more.kept among)
          (subst (ArePassedOver asked c.args.to_as) (sym (drop_here c.args.rules.now c.loop-rule.rule-index c.rule-item.result (omega arith) c.rule-item.is))
          (passed_by_more c.in_ok-marks.marks asked c.args.to_as c.rule-item.result among more.passed_over, rest));
    }

pub loop-rule-init : goal.loop-rule-init
loop-rule-init c = record { kept = keeps_itself c.args.before; all = λ asked among all. all }

pub returns : goal.returns
returns c = record {
  kept = c.loop-rule.invariant.kept;
  passed_over = c.loop-rule.invariant.all c.loop-rule.marks (keeps_itself c.loop-rule.marks) (subst (ArePassedOver c.loop-rule.marks c.args.to_as) (sym (drop_all c.loop-rule.rule-index c.args.rules.now c.loop-rule-test.false)) tt);
}
