use Rattle.rs_record.proofs.Saying.{says_all}
use Rattle.rs_record.proofs.laws.lines_say_their_events.Goals as goal

pub returns : goal.returns
returns c = says_all
