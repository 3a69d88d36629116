use Rattle.rs_live.proofs.recording.Recording.drive_with.Goals as goal

pub returns-else-self-clause-driven : goal.returns-else-self-clause-driven
returns-else-self-clause-driven g c = record { count = c.drive_with.ensures.count; led = c.drive_with.ensures.led; drives = c.drive_with.ensures.drives }
