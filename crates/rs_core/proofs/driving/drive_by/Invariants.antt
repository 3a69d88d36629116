use Rattle.rs_core.proofs.Drives.Continuing.{IsDriven}
use Rattle.rs_core.proofs.driving.drive_by.Given as goal

abbrev pub invariant-loop : goal.invariant-loop
invariant-loop g l = record {
  driven : IsDriven g.L.Link.happens l.fn.core l.fn.link l.core l.link l.closing;
}
