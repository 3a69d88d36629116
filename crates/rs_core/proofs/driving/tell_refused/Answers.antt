use Rattle.std.proofs.Common.{◌≡◌, ◌+◌, suc, subst, arith}
use Rattle.rs_core.specs.Core.{client_count, refused_below}
use Rattle.rs_core.specs.Drives.Steps.{Leads}
use Rattle.rs_core.specs.Drives.Courses.{memories}
use Rattle.rs_core.proofs.Drives.Leading.{led_same, led_on}
use Rattle.rs_core.proofs.Drives.Continuing.{told_more}
use Rattle.rs_core.proofs.driving.tell_refused.Goals as goal

pub loop-c-init : goal.loop-c-init
loop-c-init g c = record { led = led_same g.L.Link.happens _; told = λ first steps l. l }

pub loop-c-preserved : goal.loop-c-preserved
loop-c-preserved g c =
    let core = c.args.core.now in
    let next : suc c.loop-c.c ≡ c.loop-c.c + 1 = omega arith in
    record {
      led = led_on g.L.Link.happens _ _ _ c.loop-c.invariant.led c.tell_if_refused.ensures.led;
      told = λ first steps l.
          subst (λ k. Leads g.L.Link.happens first (memories (refused_below core k) steps) c.tell_if_refused.new.link) next
          (told_more g.L.Link.happens core c.loop-c.c first _ _ steps c.tell_if_refused.ensures.refused c.tell_if_refused.ensures.done (c.loop-c.invariant.told first steps l));
    }

pub returns-clause-told : goal.returns-clause-told
returns-clause-told g c = λ first steps l.
    let all : c.loop-c.c ≡ client_count c.args.core.now = omega (arith, c.clients-c-end.ensures.count) in
    subst (λ k. Leads g.L.Link.happens first (memories (refused_below c.args.core.now k) steps) c.loop-c.link) all (c.loop-c.invariant.told first steps l)
