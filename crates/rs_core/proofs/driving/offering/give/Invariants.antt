use Rattle.std.proofs.Common.{◌≡◌}
use Rattle.rs_core.specs.Core.{client_count}
use Rattle.rs_core.specs.Drives.Steps.{HasLed}
use Rattle.rs_core.specs.Drives.Courses.{Continues}
use Rattle.rs_core.proofs.Drives.Continuing.{GivesOn}
use Rattle.rs_core.proofs.driving.offering.give.Given as goal

abbrev pub invariant-loop-left : goal.invariant-loop-left
invariant-loop-left g l = record {
  count : client_count l.core ≡ client_count l.fn.core;
  led : HasLed g.L.Link.happens l.fn.link l.link;
  gives : Continues g.L.Link.happens l.fn.core l.fn.link l.core l.link (GivesOn l.fn.c l.fn.room l.left);
}

abbrev pub decreases-loop-left : goal.decreases-loop-left
decreases-loop-left g l = l.left
