use Rattle.rs_trace.proofs.Serving.{are_courses}
use Rattle.rs_trace.proofs.laws.replays_are_courses.Goals as goal

pub returns : goal.returns
returns c = are_courses
