use Rattle.std.proofs.Common.{List}
use Rattle.rs_core.specs.Core.{refused_below}
use Rattle.rs_core.specs.Drives.Steps.{Step, Leads, HasLed}
use Rattle.rs_core.specs.Drives.Courses.{memories}
use Rattle.rs_core.proofs.driving.tell_refused.Given as goal

abbrev pub invariant-loop-c : goal.invariant-loop-c
invariant-loop-c g l = record {
  led : HasLed g.L.Link.happens l.fn.link l.link;
  told : (first : g.row.L.Denot) (steps : List Step) → Leads g.L.Link.happens first steps l.fn.link → Leads g.L.Link.happens first (memories (refused_below l.core l.c) steps) l.link;
}
