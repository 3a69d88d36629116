use Rattle.std.proofs.Common.{◌≡◌, ◌≤◌, ◌-◌}
use Rattle.rs_core.specs.Core.{client_count}
use Rattle.rs_core.specs.Drives.Steps.{HasLed}
use Rattle.rs_core.specs.Drives.Courses.{Continues}
use Rattle.rs_core.specs.Drives.Answers.{Ends}
use Rattle.rs_core.specs.Drives.Closing.{DoesAmong}
use Rattle.rs_core.proofs.driving.end_closed.Given as goal

abbrev pub invariant-loop-c : goal.invariant-loop-c
invariant-loop-c g l = record {
  count : client_count l.core ≡ client_count l.fn.core;
  led : HasLed g.L.Link.happens l.fn.link l.link;
  from : l.from ≤ client_count l.fn.core;
  ends : Continues g.L.Link.happens l.fn.core l.fn.link l.core l.link (DoesAmong (Ends l.from) l.fn.closing l.closing);
}

abbrev pub decreases-loop-c : goal.decreases-loop-c
decreases-loop-c g l = client_count l.fn.core - l.from
