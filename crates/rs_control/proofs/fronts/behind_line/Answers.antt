use Rattle.rs_control.proofs.Finding.{behind, none_behind}
use Rattle.rs_control.proofs.fronts.behind_line.Goals as goal

pub returns-in-Some : goal.returns-in-Some
returns-in-Some c = behind _ _ c.args.octets.now c.position.result c.position.ensures.place c.in-Some.is

pub returns-in-None : goal.returns-in-None
returns-in-None c = none_behind _ c.args.octets.now c.position.result c.position.ensures.place c.in-None.is
