use Rattle.std.proofs.Common.{refl}
use Rattle.rs_control.specs.Courses.{Listen, Send, Still, Then}
use Rattle.rs_control.proofs.Courses.{one_step, followed}
use Rattle.rs_visitors.proofs.caller.Caller.go_on.Goals as goal

pub loop-init : goal.loop-init
loop-init g c = Still _ _

pub returns-then-not-goes_on : goal.returns-then-not-goes_on
returns-then-not-goes_on g c = followed _ _ _ _ _ _ _ _ _ c.loop.invariant
    (Then _ _ _ _ _ _ (followed _ _ _ _ _ _ _ _ _ (one_step _ _ _ _ _ _ _ (Listen refl c.read-has_read.ensures)) c.advance-has_advanced.ensures) (Send refl c.write-has_written.ensures))

pub loop-preserved : goal.loop-preserved
loop-preserved g c = followed _ _ _ _ _ _ _ _ _ c.loop.invariant
    (Then _ _ _ _ _ _ (followed _ _ _ _ _ _ _ _ _ (one_step _ _ _ _ _ _ _ (Listen refl c.read-has_read.ensures)) c.advance-has_advanced.ensures) (Send refl c.write-has_written.ensures))
