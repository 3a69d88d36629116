use Rattle.rs_control.proofs.Fronting.{line_at, no_line}
use Rattle.rs_control.proofs.fronts.front_of.Goals as goal

pub returns-in-Some-clause-value : goal.returns-in-Some-clause-value
returns-in-Some-clause-value c = line_at _ _ _ _ c.position.result c.position.ensures.place c.in-Some.is

pub returns-in-None-clause-value : goal.returns-in-None-clause-value
returns-in-None-clause-value c = no_line _ _ _ _ c.position.result c.position.ensures.place c.in-None.is c.front_without.ensures.value
