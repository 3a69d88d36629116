use Rattle.rs_live.proofs.Rounds.{stopped_same, stopped_so}
use Rattle.rs_live.proofs.serve.drive_on.Goals as goal

pub returns-then-is_wide-clause-same_ports : goal.returns-then-is_wide-clause-same_ports
returns-then-is_wide-clause-same_ports g c = stopped_same c.args.link.now c.drive_with.new.link _ c.drive_with.ensures.driven.led (λ l. l.ports.ghost_name) (λ x y s h. h.0)

pub returns-then-is_wide-clause-handled : goal.returns-then-is_wide-clause-handled
returns-then-is_wide-clause-handled g c r e = (stopped_so c.args.link.now c.drive_with.new.link _ c.drive_with.ensures.driven.led g.P.Ports.asked (λ x y s h. h.1) r.0 r.1).0 e

pub returns-then-is_wide-clause-halted : goal.returns-then-is_wide-clause-halted
returns-then-is_wide-clause-halted g c r e = (stopped_so c.args.link.now c.drive_with.new.link _ c.drive_with.ensures.driven.led g.P.Ports.asked (λ x y s h. h.1) r.0 r.1).1 e

pub returns-else-is_wide-clause-same_ports : goal.returns-else-is_wide-clause-same_ports
returns-else-is_wide-clause-same_ports g c = stopped_same c.args.link.now c.drive.new.link _ c.drive.ensures.driven.led (λ l. l.ports.ghost_name) (λ x y s h. h.0)

pub returns-else-is_wide-clause-handled : goal.returns-else-is_wide-clause-handled
returns-else-is_wide-clause-handled g c r e = (stopped_so c.args.link.now c.drive.new.link _ c.drive.ensures.driven.led g.P.Ports.asked (λ x y s h. h.1) r.0 r.1).0 e

pub returns-else-is_wide-clause-halted : goal.returns-else-is_wide-clause-halted
returns-else-is_wide-clause-halted g c r e = (stopped_so c.args.link.now c.drive.new.link _ c.drive.ensures.driven.led g.P.Ports.asked (λ x y s h. h.1) r.0 r.1).1 e
