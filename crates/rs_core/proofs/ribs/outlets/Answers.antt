use Rattle.std.proofs.Common.{◌≡◌, ◌+◌, length, ◌∙◌, ap, subst}
use Rattle.rs_outlet.specs.Views.{bare}
use Rattle.rs_outlet.specs.declared.answers.Last.TheVariants as lasts
use Rattle.rs_core.proofs.Run.Keeping.{push_length, push_bare, bare_kept}
use Rattle.rs_core.proofs.ribs.outlets.Goals as goal

pub loop-c-preserved : goal.loop-c-preserved
loop-c-preserved c =
    let xs = c.loop-c.all.items in
    let v = c.in_ok-new.field-0 in (
      ap length c.in_ok-push.ensures.items ∙ push_length xs v ∙ ap (λ n. n + 1) c.loop-c.invariant.0,
      push_bare c.args.config.now.top.extended xs c.push.new.self.items c.loop-c.c v c.in_ok-push.ensures.items c.loop-c.invariant.0 c.loop-c.invariant.1
          (subst (λ b. v ≡ bare c.loop-c.c b lasts.Never) c.extended.ensures c.in_ok-new.ensures),
    )

pub returns-clause-kept : goal.returns-clause-kept
returns-clause-kept c = bare_kept c.args.config.now.top.extended c.loop-c.all.items c.loop-c.invariant.1
