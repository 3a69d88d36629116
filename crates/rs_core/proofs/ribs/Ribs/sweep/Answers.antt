use Rattle.rs_core.proofs.Run.Changing.{sweep_begins, sweep_on}
use Rattle.rs_core.proofs.ribs.Ribs.sweep.Goals as goal

pub loop-step-init : goal.loop-step-init
loop-step-init c = sweep_begins c.args.self.now

pub loop-step-preserved : goal.loop-step-preserved
loop-step-preserved c = sweep_on c.args.self.now c.loop-step.self c.sweep_next.new.self c.loop-step.invariant c.sweep_next.ensures.settings c.sweep_next.ensures.tables c.sweep_next.ensures.outlets c.sweep_next.ensures.kept
