use Rattle.rs_core.proofs.Touched.Since.{answers_by_what_was_altered}
use Rattle.rs_core.proofs.laws.answers_by_what_was_altered.Goals as goal

pub returns : goal.returns
returns c = answers_by_what_was_altered
