use Rattle.rs_control.specs.Courses.{Still, Advance}
use Rattle.rs_control.proofs.Courses.{one_step}
use Rattle.rs_visitors.proofs.caller.Caller.advance.Goals as goal

pub returns-then-pieces-eq0 : goal.returns-then-pieces-eq0
returns-then-pieces-eq0 g c = Still _ _

pub returns-then-not-advance : goal.returns-then-not-advance
returns-then-not-advance g c = let a = c.advance.ensures in one_step _ _ _ _ _ _ _ (Advance (record { begins = a.begins; goes_on = a.goes_on; pays = a.pays; busy = a.busy }))

pub returns : goal.returns
returns g c = let a = c.advance.ensures in one_step _ _ _ _ _ _ _ (Advance (record { begins = a.begins; goes_on = a.goes_on; pays = a.pays; busy = a.busy }))
