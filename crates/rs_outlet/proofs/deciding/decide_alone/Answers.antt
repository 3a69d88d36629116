use Rattle.std.proofs.Common.{◌≡◌, ◌∙◌, None, IfOk, option_map, sym, subst, if◌then◌else◌}
use Rattle.std.specs.Arc.{arc_value}
use Rattle.rs_outlet.specs.Decided.HeldBy.{held_by}
use Rattle.rs_outlet.specs.Decided.Passing.{attributes_passed, passed_fitting}
use Rattle.rs_outlet.proofs.deciding.decide_alone.Goals as goal

pub returns-clause-due : goal.returns-clause-due
returns-clause-due c =
    subst
    (λ kept. IfOk c.pass_fitting.result (λ due. option_map attributes_passed due ≡ (if kept then None else passed_fitting (held_by c.args.sources.now) c.args.sources.now.client c.args.speech c.args.prefix.now (c.args.holder.now.client, arc_value c.args.holder.now.attrs.now))))
    (sym (sym c.is_kept_back.ensures ∙ c.if-is_kept_back.false)) c.pass_fitting.ensures.due
