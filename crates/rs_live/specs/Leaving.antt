-- What a call leaves of a link as it was.
use Rattle.std.specs.Prelude.{◌≡◌, List}
use Rattle.rs_live.specs.declared.live_link.LiveLink.{LiveLink}
use Rattle.rs_live.specs.Calls.{Call}
use Rattle.rs_live.specs.Keeping.{all_held}
use Rattle.rs_live.specs.Handled.{Keeps}

-- the link is over the same ports
abbrev pub SamePorts : {P : Type 0} → LiveLink P → LiveLink P → Type 0
SamePorts old new = new.ports.ghost_name ≡ old.ports.ghost_name

-- and the round stands where it stood: in the same phase, and no other accept has failed
pub record LeavesRound {P : Type 0} (old new : LiveLink P) : Type 0 where
  pub same_ports : SamePorts old new
  pub failed : new.has_failed ≡ old.has_failed
  pub phase : new.phase ≡ old.phase

-- and each client has what it had
pub record LeavesClients {P : Type 0} (old new : LiveLink P) : Type 0 where
  pub same_ports : SamePorts old new
  pub failed : new.has_failed ≡ old.has_failed
  pub held : all_held new ≡ all_held old
  pub phase : new.phase ≡ old.phase

-- and the ports were asked nothing
pub record LeavesPorts {P : Type 0} (old new : LiveLink P) : Type 0 where
  pub same_ports : SamePorts old new
  pub failed : new.has_failed ≡ old.has_failed
  pub held : all_held new ≡ all_held old
  pub phase : new.phase ≡ old.phase
  pub unasked : new.ports.now ≡ old.ports.now

-- the round stands where it stood, and where all that was done before is handled, so is what was done since
pub record KeepsOn {P : Type 0} (asked : P → List Call → Type 0) (old new : LiveLink P) : Type 0 where
  pub same_ports : SamePorts old new
  pub failed : new.has_failed ≡ old.has_failed
  pub phase : new.phase ≡ old.phase
  pub handled : Keeps asked old → Keeps asked new
