use Rattle.std.proofs.Common.{refl}
use Rattle.rs_control.specs.Steps.{Put}
use Rattle.rs_control.proofs.steps.put.Goals as goal

pub returns-in-Some : goal.returns-in-Some
returns-in-Some c = Put c.in-Some.number refl c.in-Some.ensures.due c.in-Some.ensures.number
