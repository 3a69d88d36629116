use Rattle.std.proofs.Common.{refl}
use Rattle.rs_core.specs.Drives.Steps as links
use Rattle.rs_trace.proofs.Replaying.{added_by}
use Rattle.rs_trace.proofs.recording.RecordingSink.ruled.Goals as goal

pub returns : goal.returns
returns g c = added_by (links.Replaced c.args.answer.now) tt refl (c.write.ensures _ c.ruled-made.ensures)
