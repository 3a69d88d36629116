use Rattle.std.proofs.Common.{◌≡◌, ◌∙◌, ℕ, List, [], ◌∷◌, Some, None, subst, sym, ap, refl}
use Rattle.std.specs.Prelude.{Result, Ok, Err, IfOk, length}
use Rattle.std.specs.Global.{Vec}
use Rattle.std.specs.declared.alloc.AllocError.{AllocError}
use Rattle.rs_policy.specs.Configuration.{Configuration}
use Rattle.rs_core.specs.Drives.Steps as links
use Rattle.rs_core.specs.Drives.Steps.{HasStopped}
use Rattle.rs_core.specs.Run.Agreeing.{Agrees}
use Rattle.rs_core.specs.Core.{client_count}
use Rattle.rs_core.specs.Run.Moves.{Move, Ruled}
use Rattle.rs_core.specs.Drives.Courses.{course, Continues}
use Rattle.rs_core.specs.Drives.Answers.{Drives}
use Rattle.rs_core.specs.declared.route_server.Core.{Core}
use Rattle.rs_trace.specs.declared.recording.Recording.{Recording}
use Rattle.rs_trace.specs.declared.fault.Stop.{Stop}
use Rattle.rs_trace.specs.declared.fault.Stop.TheVariants.{End, Table}
use Rattle.rs_trace.specs.declared.fault.ReplayFault.{ReplayFault}
use Rattle.rs_trace.specs.Played.{Act, Did, ListedRoutes, lines_done, written, failures_read, failures_written}
use Rattle.rs_trace.specs.Replays.{Adds, Begins, Happens, IsOver, Plays, PlaysTo, Tells, place_in, name_in}
use Rattle.rs_trace.specs.Tables.{ListsOf}
use Rattle.rs_trace.proofs.Replaying.{HasGone, did, listed_lines, done_first, gone_on, led_to_stop, over_at_end}
use Rattle.rs_trace.proofs.replay.play_on.Given as given
use Rattle.rs_trace.proofs.replay.play_on.Invariants.{Does}
use Rattle.rs_trace.proofs.replay.play_on.Goals as goal

-- a step of the link, as the recording says it
abbrev Stepped : (g : given.Over) → Recording g.row.R.Denot g.row.W.Denot g.row.P.Denot → links.Step → Recording g.row.R.Denot g.row.W.Denot g.row.P.Denot → Type 0
Stepped g a s b = Happens g.R.TextIn.takes g.R.TextIn.at_end g.R.TextIn.failures g.W.TextOut.puts g.W.TextOut.failures
    a.names.now a.reader.ghost_name a.writer.ghost_name a.reader.now a.writer.now a.lines.now a.number a.stop s
    b.names.now b.reader.ghost_name b.writer.ghost_name b.reader.now b.writer.now b.lines.now b.number b.stop

step : (g : given.Over) (first a b : Recording g.row.R.Denot g.row.W.Denot g.row.P.Denot) (s : links.Step) (acts : List Act) → Stepped g a s b → Does g first acts a → Does g first (Did s ∷ acts) b
step g first a b s acts happens done = did g.R.TextIn.takes g.R.TextIn.at_end g.R.TextIn.failures g.W.TextOut.puts g.W.TextOut.failures
    first.names.now first.reader.ghost_name first.writer.ghost_name first.reader.now first.writer.now acts s
    a.names.now a.reader.ghost_name a.writer.ghost_name a.reader.now a.writer.now a.lines.now a.number a.stop
    b.names.now b.reader.ghost_name b.writer.ghost_name b.reader.now b.writer.now b.lines.now b.number b.stop happens done

-- a run of the link's steps was done
led : (g : given.Over) (first old new : Recording g.row.R.Denot g.row.W.Denot g.row.P.Denot) → ((acts : List Act) × Does g first acts old) → HasStopped (Stepped g) old new → (acts : List Act) × Does g first acts new
led g first old new before h = led_to_stop (Stepped g) (λ link acts. Does g first acts link) (step g first) old new before.0 h before.1

-- and it is the route server's
gone : (g : given.Over) (first old new : Recording g.row.R.Denot g.row.W.Denot g.row.P.Denot) (settings : Configuration) (before after : Core)
    → client_count after ≡ client_count before → Continues (Stepped g) before old after new Drives
    → HasGone (λ link acts. Does g first acts link) settings (name_in first.names.now) before old → HasGone (λ link acts. Does g first acts link) settings (name_in first.names.now) after new
gone g first old new settings before after count c h = gone_on (Stepped g) (λ link acts. Does g first acts link) (step g first) settings (name_in first.names.now) before old after new count c h

-- routes were listed
listed_one : (g : given.Over) (first old resumed new : Recording g.row.R.Denot g.row.W.Denot g.row.P.Denot) (c : ℕ) (line : List ℕ) (acts : List Act)
    → old.stop ≡ Some (Table c) → resumed ≡ record old { stop = None }
    → Adds g.R.TextIn.takes g.R.TextIn.at_end g.R.TextIn.failures g.W.TextOut.puts g.W.TextOut.failures
    resumed.names.now resumed.reader.ghost_name resumed.writer.ghost_name resumed.reader.now resumed.writer.now resumed.lines.now resumed.number resumed.stop line
    new.names.now new.reader.ghost_name new.writer.ghost_name new.reader.now new.writer.now new.lines.now new.number new.stop
    → Does g first acts old → Does g first (ListedRoutes c line ∷ acts) new
listed_one g first old resumed new c line acts stop is adds done = listed_lines g.R.TextIn.takes g.R.TextIn.at_end g.R.TextIn.failures g.W.TextOut.puts g.W.TextOut.failures
    first.names.now first.reader.ghost_name first.writer.ghost_name first.reader.now first.writer.now acts c line
    old.names.now old.reader.ghost_name old.writer.ghost_name old.reader.now old.writer.now old.lines.now old.number old.stop
    new.names.now new.reader.ghost_name new.writer.ghost_name new.reader.now new.writer.now new.lines.now new.number new.stop
    stop
    (subst (λ (a : Recording g.row.R.Denot g.row.W.Denot g.row.P.Denot). Adds g.R.TextIn.takes g.R.TextIn.at_end g.R.TextIn.failures g.W.TextOut.puts g.W.TextOut.failures
    a.names.now a.reader.ghost_name a.writer.ghost_name a.reader.now a.writer.now a.lines.now a.number a.stop line
    new.names.now new.reader.ghost_name new.writer.ghost_name new.reader.now new.writer.now new.lines.now new.number new.stop) is adds)
    done

-- the lines that are written: none where memory was refused
some_listed : (lines : Result (Vec ℕ) AllocError) → (listed_lines : List ℕ) × IfOk lines (λ made. made.items ≡ listed_lines)
some_listed (Ok made) = (made.items, refl)
some_listed (Err refused) = ([], tt)

listed_gone : (g : given.Over) (first old new : Recording g.row.R.Denot g.row.W.Denot g.row.P.Denot) (c : ℕ) (lines : Result (Vec ℕ) AllocError) (settings : Configuration) (core : Core)
    → ((listed_lines : List ℕ) → IfOk lines (λ made. made.items ≡ listed_lines) → (acts : List Act) → Does g first acts old → Does g first (ListedRoutes c listed_lines ∷ acts) new)
    → ((run : List Move) → Agrees core run → (listed_lines : List ℕ) × ListsOf (client_count core) run c (name_in first.names.now c) listed_lines × IfOk lines (λ made. made.items ≡ listed_lines))
    → HasGone (λ link acts. Does g first acts link) settings (name_in first.names.now) core old → HasGone (λ link acts. Does g first acts link) settings (name_in first.names.now) core new
listed_gone g first old new c lines settings core one lists h =
    let found = lists h.run h.agrees in
    record {
      acts = ListedRoutes c found.0 ∷ h.acts;
      steps = h.steps;
      run = h.run;
      agrees = h.agrees;
      done = one found.0 found.2 h.acts h.done;
      ran = Tells c found.0 h.acts (course core h.steps h.run h.agrees) h.ran (subst (λ n. ListsOf n h.run c (name_in first.names.now c) found.0) h.clients found.1);
      clients = h.clients;
    }

-- a drive stopped for a client's routes, and they were listed: what held before it holds again
holds_on : (g : given.Over) (first before last resumed new : Recording g.row.R.Denot g.row.W.Denot g.row.P.Denot) (c : ℕ) (name : List ℕ) (lines : Result (Vec ℕ) AllocError) (begun old core : Core)
    → last.stop ≡ Some (Table c) → resumed ≡ record last { stop = None } → name ≡ name_in resumed.names.now c
    → ((acts : List Act) × Does g first acts before) × ((settings : Configuration) → client_count begun ≡ length settings.clients → Agrees begun (Ruled settings ∷ []) → HasGone (λ link acts. Does g first acts link) settings (name_in first.names.now) old before)
    → HasStopped (Stepped g) before last → client_count core ≡ client_count old → Continues (Stepped g) old before core last Drives
    → ((run : List Move) → Agrees core run → (listed_lines : List ℕ) × ListsOf (client_count core) run c name listed_lines × IfOk lines (λ made. made.items ≡ listed_lines))
    → ((listed_lines : List ℕ) → IfOk lines (λ made. made.items ≡ listed_lines) → Adds g.R.TextIn.takes g.R.TextIn.at_end g.R.TextIn.failures g.W.TextOut.puts g.W.TextOut.failures
    resumed.names.now resumed.reader.ghost_name resumed.writer.ghost_name resumed.reader.now resumed.writer.now resumed.lines.now resumed.number resumed.stop listed_lines
    new.names.now new.reader.ghost_name new.writer.ghost_name new.reader.now new.writer.now new.lines.now new.number new.stop)
    → ((acts : List Act) × Does g first acts new) × ((settings : Configuration) → client_count begun ≡ length settings.clients → Agrees begun (Ruled settings ∷ []) → HasGone (λ link acts. Does g first acts link) settings (name_in first.names.now) core new)
holds_on g first before last resumed new c name lines begun old core stop resumes names held drove count drives lists adds =
    let done = led g first before last held.0 drove in
    let named : name ≡ name_in first.names.now c = names ∙ ap (λ (r : Recording g.row.R.Denot g.row.W.Denot g.row.P.Denot). name_in r.names.now c) resumes ∙ ap (λ ns. name_in ns c) done.1.same_names in
    let one : (listed_lines : List ℕ) → IfOk lines (λ made. made.items ≡ listed_lines) → (acts : List Act) → Does g first acts last → Does g first (ListedRoutes c listed_lines ∷ acts) new =
    λ listed_lines is acts did. listed_one g first last resumed new c listed_lines acts stop resumes (adds listed_lines is) did in
    let some = some_listed lines in (
      (_, one some.0 some.1 done.0 done.1),
      λ settings clients agrees. listed_gone g first last new c lines settings core one
          (subst (λ n. (run : List Move) → Agrees core run → (listed_lines : List ℕ) × ListsOf (client_count core) run c n listed_lines × IfOk lines (λ made. made.items ≡ listed_lines)) named lists)
          (gone g first before last settings old core count drives (held.1 settings clients agrees)),
    )

-- the replay is over, at this stop
played_to : (g : given.Over) (first last : Recording g.row.R.Denot g.row.W.Denot g.row.P.Denot) (settings : Configuration) (core : Core) (stop : Stop) (answer : Result (Unit {0}) ReplayFault) (reader : g.row.R.Denot) (writer : g.row.W.Denot)
    → HasGone (λ link acts. Does g first acts link) settings (name_in first.names.now) core last → last.stop ≡ Some stop
    → ((acts : List Act) → Plays g.R.TextIn.takes g.R.TextIn.at_end g.R.TextIn.failures g.W.TextOut.puts g.W.TextOut.failures (place_in last.names.now) first.reader.now first.writer.now (lines_done acts) (written (name_in first.names.now) acts) last.reader.now last.writer.now last.lines.now last.number (Some stop)
    → IsOver g.R.TextIn.takes g.R.TextIn.at_end g.W.TextOut.puts (place_in last.names.now) first.reader.now first.writer.now (lines_done acts) (written (name_in first.names.now) acts) reader writer answer)
    → PlaysTo settings g.R.TextIn.takes g.R.TextIn.at_end g.W.TextOut.puts first.names.now first.reader.now first.writer.now reader writer core answer
played_to g first last settings core stop answer reader writer h at over = record {
  out = record {
    acts = h.acts;
    course = course core h.steps h.run h.agrees;
    ran = h.ran;
    took = h.done.took;
    over = subst (λ ns. Plays g.R.TextIn.takes g.R.TextIn.at_end g.R.TextIn.failures g.W.TextOut.puts g.W.TextOut.failures (place_in ns) first.reader.now first.writer.now (lines_done h.acts) (written (name_in first.names.now) h.acts) last.reader.now last.writer.now last.lines.now last.number (Some stop)
        → IsOver g.R.TextIn.takes g.R.TextIn.at_end g.W.TextOut.puts (place_in ns) first.reader.now first.writer.now (lines_done h.acts) (written (name_in first.names.now) h.acts) reader writer answer)
        h.done.same_names (over h.acts)
        (subst (λ x. Plays g.R.TextIn.takes g.R.TextIn.at_end g.R.TextIn.failures g.W.TextOut.puts g.W.TextOut.failures (place_in first.names.now) first.reader.now first.writer.now (lines_done h.acts) (written (name_in first.names.now) h.acts) last.reader.now last.writer.now last.lines.now last.number x) at h.done.plays);
  };
  at = refl;
}

pub loop-init : goal.loop-init
loop-init g c =
    let now = c.args.recording.now in
    let done = done_first g.R.TextIn.takes g.R.TextIn.at_end g.R.TextIn.failures g.W.TextOut.puts g.W.TextOut.failures now.names.now now.reader.ghost_name now.writer.ghost_name now.reader.now now.writer.now now.lines.now now.number now.stop
    (g.met.R.TextIn.takes_none now.reader.now) (g.met.W.TextOut.puts_none now.writer.now) c.requires.first in
    (([], done), λ settings clients agrees. record { acts = []; steps = []; run = Ruled settings ∷ []; agrees = agrees; done = done; ran = Begins c.args.core.now agrees clients; clients = clients })

pub loop-preserved-in-None-stop : goal.loop-preserved-in-None-stop
loop-preserved-in-None-stop g c = (
  led g c.args.recording.now c.loop.recording c.drive_with.new.link c.loop.invariant.0 c.drive_with.ensures.led,
  λ settings clients agrees. gone g c.args.recording.now c.loop.recording c.drive_with.new.link settings c.loop.core c.drive_with.new.core c.drive_with.ensures.count c.drive_with.ensures.drives (c.loop.invariant.1 settings clients agrees),
)

pub loop-preserved-in-Some-Table : goal.loop-preserved-in-Some-Table
loop-preserved-in-Some-Table g c =
    holds_on g c.args.recording.now c.loop.recording c.drive_with.new.link c.resume.new.self c.list_routes.new.self c.in-Some-Table.c c.name.result.now c.route_lines-lines.result c.args.core.now c.loop.core c.drive_with.new.core
    (sym c.stop.ensures ∙ c.in-Some-Table.is ∙ ap Some c.in-Some-Table.field-0-is) c.resume.ensures c.name.ensures c.loop.invariant c.drive_with.ensures.led c.drive_with.ensures.count c.drive_with.ensures.drives c.route_lines-lines.ensures c.list_routes.ensures

pub loop-preserved : goal.loop-preserved
loop-preserved g c =
    holds_on g c.args.recording.now c.loop.recording c.drive_with.new.link c.resume.new.self c.list_routes.new.self c.in-Some-Table.c c.name.result.now c.route_lines-lines.result c.args.core.now c.loop.core c.drive_with.new.core
    (sym c.stop.ensures ∙ c.in-Some-Table.is ∙ ap Some c.in-Some-Table.field-0-is) c.resume.ensures c.name.ensures c.loop.invariant c.drive_with.ensures.led c.drive_with.ensures.count c.drive_with.ensures.drives c.route_lines-lines.ensures c.list_routes.ensures

pub returns-in-Some-End-clause-reader : goal.returns-in-Some-End-clause-reader
returns-in-Some-End-clause-reader g c = (led g c.args.recording.now c.loop.recording c.drive_with.new.link c.loop.invariant.0 c.drive_with.ensures.led).1.same_reader

pub returns-in-Some-End-clause-writer : goal.returns-in-Some-End-clause-writer
returns-in-Some-End-clause-writer g c = (led g c.args.recording.now c.loop.recording c.drive_with.new.link c.loop.invariant.0 c.drive_with.ensures.led).1.same_writer

pub returns-in-Some-End-clause-played : goal.returns-in-Some-End-clause-played
returns-in-Some-End-clause-played g c = λ settings clients agrees.
    let first = c.args.recording.now in
    let last = c.drive_with.new.link in
    played_to g first last settings c.drive_with.new.core End (Ok tt) last.reader.now last.writer.now
    (gone g first c.loop.recording last settings c.loop.core c.drive_with.new.core c.drive_with.ensures.count c.drive_with.ensures.drives (c.loop.invariant.1 settings clients agrees))
    (sym c.stop.ensures ∙ c.in-Some-End.is ∙ ap Some c.in-Some-End.field-0-is)
    (λ acts p. over_at_end g.R.TextIn.takes g.R.TextIn.at_end g.R.TextIn.failures g.W.TextOut.puts g.W.TextOut.failures (place_in last.names.now) first.reader.now first.writer.now (lines_done acts) (written (name_in first.names.now) acts) last.reader.now last.writer.now last.lines.now last.number p)

pub returns-in-Some-Fault-clause-reader : goal.returns-in-Some-Fault-clause-reader
returns-in-Some-Fault-clause-reader g c = c.end_at.ensures.reader ∙ (led g c.args.recording.now c.loop.recording c.drive_with.new.link c.loop.invariant.0 c.drive_with.ensures.led).1.same_reader

pub returns-in-Some-Fault-clause-writer : goal.returns-in-Some-Fault-clause-writer
returns-in-Some-Fault-clause-writer g c = c.end_at.ensures.writer ∙ (led g c.args.recording.now c.loop.recording c.drive_with.new.link c.loop.invariant.0 c.drive_with.ensures.led).1.same_writer

pub returns-in-Some-Fault-clause-played : goal.returns-in-Some-Fault-clause-played
returns-in-Some-Fault-clause-played g c = λ settings clients agrees.
    let first = c.args.recording.now in
    let last = c.drive_with.new.link in
    let at = sym c.stop.ensures ∙ c.in-Some-Fault.is in
    played_to g first last settings c.drive_with.new.core c.in-Some-Fault.field-0 (Err c.end_at.result) c.end_at.new.self.reader.now c.end_at.new.self.writer.now
    (gone g first c.loop.recording last settings c.loop.core c.drive_with.new.core c.drive_with.ensures.count c.drive_with.ensures.drives (c.loop.invariant.1 settings clients agrees)) at
    (λ acts p. c.end_at.ensures.over first.reader.now first.writer.now (lines_done acts) (written (name_in first.names.now) acts)
    (subst (λ x. Plays g.R.TextIn.takes g.R.TextIn.at_end g.R.TextIn.failures g.W.TextOut.puts g.W.TextOut.failures (place_in last.names.now) first.reader.now first.writer.now (lines_done acts) (written (name_in first.names.now) acts) last.reader.now last.writer.now last.lines.now last.number x) (sym at) p))

pub returns-in-Some-End-clause-reads : goal.returns-in-Some-End-clause-reads
returns-in-Some-End-clause-reads g c =
    let first = c.args.recording.now in
    let last = c.drive_with.new.link in
    subst (λ x. g.R.TextIn.failures last.reader.now ≡ failures_read x (g.R.TextIn.failures first.reader.now)) (sym c.stop.ensures ∙ c.in-Some-End.is ∙ ap Some c.in-Some-End.field-0-is)
    (led g first c.loop.recording last c.loop.invariant.0 c.drive_with.ensures.led).1.plays.reads

pub returns-in-Some-End-clause-writes : goal.returns-in-Some-End-clause-writes
returns-in-Some-End-clause-writes g c =
    let first = c.args.recording.now in
    let last = c.drive_with.new.link in
    subst (λ x. g.W.TextOut.failures last.writer.now ≡ failures_written x (g.W.TextOut.failures first.writer.now)) (sym c.stop.ensures ∙ c.in-Some-End.is ∙ ap Some c.in-Some-End.field-0-is)
    (led g first c.loop.recording last c.loop.invariant.0 c.drive_with.ensures.led).1.plays.writes

pub returns-in-Some-Fault-clause-reads : goal.returns-in-Some-Fault-clause-reads
returns-in-Some-Fault-clause-reads g c =
    c.end_at.ensures.reads (g.R.TextIn.failures c.args.recording.now.reader.now)
    (led g c.args.recording.now c.loop.recording c.drive_with.new.link c.loop.invariant.0 c.drive_with.ensures.led).1.plays.reads

pub returns-in-Some-Fault-clause-writes : goal.returns-in-Some-Fault-clause-writes
returns-in-Some-Fault-clause-writes g c =
    c.end_at.ensures.writes (g.W.TextOut.failures c.args.recording.now.writer.now)
    (led g c.args.recording.now c.loop.recording c.drive_with.new.link c.loop.invariant.0 c.drive_with.ensures.led).1.plays.writes
