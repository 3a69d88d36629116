use Rattle.rs_live.proofs.recording.Recording.drive.Goals as goal

pub returns-else-self-clause-driven : goal.returns-else-self-clause-driven
returns-else-self-clause-driven g c = record { count = c.drive.ensures.count; led = c.drive.ensures.led; drives = c.drive.ensures.drives }

pub returns-then-self-clause-driven : goal.returns-then-self-clause-driven
returns-then-self-clause-driven g c = c.drive_recorded.ensures.driven

pub returns-then-self-clause-recorded : goal.returns-then-self-clause-recorded
returns-then-self-clause-recorded g c h = c.drive_recorded.ensures.recorded
