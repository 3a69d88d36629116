-- What was done so far is what the steps of the link were, and the routes that were listed between them.
use Rattle.std.proofs.Common.{◌≡◌, List, [], ◌∷◌, length}
use Rattle.rs_policy.specs.Configuration.{Configuration}
use Rattle.rs_core.specs.Core.{client_count}
use Rattle.rs_core.specs.Run.Moves.{Ruled}
use Rattle.rs_core.specs.Run.Agreeing.{Agrees}
use Rattle.rs_trace.specs.declared.recording.Recording.{Recording}
use Rattle.rs_trace.specs.Played.{Act}
use Rattle.rs_trace.specs.Replays.{HasDone, name_in}
use Rattle.rs_trace.proofs.Replaying.{HasGone}
use Rattle.rs_trace.proofs.replay.play_on.Given as goal

-- these acts lead from one recording to the other
abbrev pub Does : (g : goal.Over) → Recording g.row.R.Denot g.row.W.Denot g.row.P.Denot → List Act → Recording g.row.R.Denot g.row.W.Denot g.row.P.Denot → Type 0
Does g first acts now = HasDone g.R.TextIn.takes g.R.TextIn.at_end g.R.TextIn.failures g.W.TextOut.puts g.W.TextOut.failures
    first.names.now first.reader.ghost_name first.writer.ghost_name first.reader.now first.writer.now acts
    now.names.now now.reader.ghost_name now.writer.ghost_name now.reader.now now.writer.now now.lines.now now.number now.stop

abbrev pub invariant-loop : goal.invariant-loop
invariant-loop g l =
    ((acts : List Act) × Does g l.initial.recording acts l.recording)
    × ((settings : Configuration) → client_count l.initial.core ≡ length settings.clients → Agrees l.initial.core (Ruled settings ∷ [])
    → HasGone (λ link acts. Does g l.initial.recording acts link) settings (name_in l.initial.recording.names.now) l.core l.recording)
