use Rattle.rs_control.proofs.Texts.{named, unnamed}
use Rattle.rs_control.proofs.lines.place.Goals as goal

pub returns-in-Ok : goal.returns-in-Ok
returns-in-Ok c = named c.args.config.now c.args.name.now _ _ c.in-Ok.ensures.cases.1 c.in-Ok.ensures.cases.0 c.place.ensures.named

pub returns-in-Err : goal.returns-in-Err
returns-in-Err c = unnamed c.args.config.now c.args.name.now c.in-Err.ensures.cases.0
