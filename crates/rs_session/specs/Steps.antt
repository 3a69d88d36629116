-- What the code makes of its fields at a message, at a moment and at a command.
use Rattle.std.specs.Prelude.{ℕ, zero, suc, ◌+◌, Bool, true, false, min, Ok, Err, if◌then◌else◌}
use Rattle.rs_open.specs.declared.short.Short.TheVariants as short
use Rattle.rs_session.specs.declared.command.Command.{Command}
use Rattle.rs_session.specs.declared.heard.Heard.{Heard}
use Rattle.rs_session.specs.declared.heard.Heard.TheVariants as heard
use Rattle.rs_session.specs.declared.act.Act.{Act}
use Rattle.rs_session.specs.declared.act.Act.TheVariants as acts
use Rattle.rs_session.specs.declared.phase.Phase.{Phase}
use Rattle.rs_session.specs.declared.phase.Phase.TheVariants as phases
use Rattle.rs_session.specs.declared.phase.Peer.{Peer}
use Rattle.rs_session.specs.Items.{restarts_hold_timer}
use Rattle.rs_session.specs.Endings.{Fate, GoesOn, Ends, first_fate, second_fate, later_fate, open_wait, moment_fate, command_fate}
use Rattle.rs_session.specs.Sessions.{is_request, is_third_past}

abbrev pub step : Fate → Phase → Act → Phase × Act
step (Ends note) phase act = (phases.Closing, acts.Down note)
step GoesOn phase act = (phase, act)

abbrev pub phase_from : ℕ → Heard → Phase
phase_from now (heard.Open (Ok sent)) =
    phases.Agreed (record { sent = sent; confirmed = false; hold_timer_since = now; keepalive_timer_since = now })
phase_from now (heard.Open (Err fault)) = phases.Closing
phase_from now (heard.Update reset) = phases.Closing
phase_from now (heard.Refresh afi safi) = phases.Closing
phase_from now heard.Note = phases.Closing
phase_from now heard.Keepalive = phases.Closing
phase_from now (heard.Header fault) = phases.Closing

abbrev pub first_step : ℕ → ℕ → Heard → Phase × Act
first_step peer_as now message =
    step (first_fate peer_as message) (phase_from now message) (acts.Say short.Keepalive)

abbrev pub second_step : Peer → ℕ → Heard → Phase × Act
second_step peer now message =
    step (second_fate message) (phases.Agreed (record peer { confirmed = true; hold_timer_since = now })) acts.Up

abbrev pub later_step : Peer → ℕ → Heard → Phase × Act
later_step peer now message = step (later_fate message)
    (phases.Agreed (record peer {
      hold_timer_since = if restarts_hold_timer message then now else peer.hold_timer_since;
    }))
    (if is_request message then acts.Again else acts.None)

abbrev pub message_step : Phase → ℕ → ℕ → Heard → Phase × Act
message_step phases.Idle peer_as now message = (phases.Idle, acts.None)
message_step (phases.OpenSent since) peer_as now message = first_step peer_as now message
message_step (phases.Agreed peer) peer_as now message =
    if peer.confirmed then later_step peer now message else second_step peer now message
message_step phases.Closing peer_as now message = (phases.Closing, acts.None)

-- the hold timer at a moment, before the OPEN
abbrev pub wait : ℕ → ℕ → Phase × Act
wait since now = step (moment_fate open_wait since now) (phases.OpenSent since) acts.None

-- the two timers after a moment
abbrev pub tick : ℕ → Peer → ℕ → Phase × Act
tick hold peer now = step (moment_fate hold peer.hold_timer_since now)
    (phases.Agreed (record peer {
      keepalive_timer_since = if is_third_past hold peer.keepalive_timer_since now then now else peer.keepalive_timer_since;
    }))
    (if is_third_past hold peer.keepalive_timer_since now then acts.Say short.Keepalive else acts.None)

abbrev pub moment_step : Phase → ℕ → ℕ → Phase × Act
moment_step phases.Idle hold now = (phases.Idle, acts.None)
moment_step (phases.OpenSent since) hold now = wait since now
moment_step (phases.Agreed peer) hold now = tick (min hold peer.sent.hold) peer now
moment_step phases.Closing hold now = (phases.Closing, acts.None)

-- a session that lasts, by whether it is Established
abbrev pub obey : Phase → Bool → Command → Phase × Act
obey phase established command = step (command_fate command) phase (if established then acts.Again else acts.None)

abbrev pub command_step : Phase → Command → Phase × Act
command_step phases.Idle command = (phases.Idle, acts.None)
command_step (phases.OpenSent since) command = obey (phases.OpenSent since) false command
command_step (phases.Agreed peer) command = obey (phases.Agreed peer) peer.confirmed command
command_step phases.Closing command = (phases.Closing, acts.None)

-- the greatest moment, as a u64 holds it, at which this many seconds have not passed since
abbrev pub quiet_for : ℕ → ℕ → ℕ
quiet_for zero since = 18446744073709551615
quiet_for (suc most) since = min (since + most) 18446744073709551615
