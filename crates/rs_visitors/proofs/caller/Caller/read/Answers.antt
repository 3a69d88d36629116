use Rattle.rs_control.specs.Courses.{Heard}
use Rattle.rs_visitors.proofs.caller.Caller.read.Goals as goal

pub returns-in-Some-read : goal.returns-in-Some-read
returns-in-Some-read c = Heard _ c.hear.ensures
