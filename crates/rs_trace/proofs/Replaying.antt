-- A replay as the steps of the core's link and the routes that were listed between them.
use Rattle.std.proofs.Common.{◌≡◌, ℕ, ◌+◌, length, List, [], ◌∷◌, ◌++◌, refl, sym, ◌∙◌, ap, inl, inr, Option, Some, None, subst}
use Rattle.std.specs.Prelude.{Result, Ok, Err}
use Rattle.std.proofs.lemmas.List.{append-nil}
use Rattle.rs_core.specs.Drives.Steps as links
use Rattle.rs_core.specs.Drives.Steps.{HasStopped, Leads}
use Rattle.rs_core.specs.declared.links.Event.TheVariants as events
use Rattle.rs_core.specs.declared.route_server.Core.{Core}
use Rattle.rs_core.specs.Core.{client_count}
use Rattle.rs_core.specs.Run.Moves.{Move}
use Rattle.rs_core.specs.Run.Agreeing.{Agrees}
use Rattle.rs_core.specs.Drives.Courses.{course, Continues}
use Rattle.rs_core.specs.Drives.Answers.{Drives}
use Rattle.rs_policy.specs.Configuration.{Configuration}
use Rattle.rs_trace.specs.declared.trace.LineFault.{LineFault}
use Rattle.rs_trace.specs.declared.names.Names.{Names}
use Rattle.rs_trace.specs.declared.fault.ReplayFault.{ReplayFault}
use Rattle.rs_trace.specs.declared.fault.ReplayFault.TheVariants.{Line, Memory, Reading, Writing}
use Rattle.rs_trace.specs.declared.fault.Stop.{Stop}
use Rattle.rs_trace.specs.declared.fault.Stop.TheVariants.{End, Table, Fault}
use Rattle.rs_trace.specs.declared.trace_lines.TraceLines.{TraceLines}
use Rattle.rs_trace.specs.Output.{fault_line}
use Rattle.rs_trace.specs.Trace.{LineMeaning, Listed}
use Rattle.rs_trace.specs.Played.{Act, Did, ListedRoutes, lines_done, written, Puts, MeansFirst, TookAll, line_at, meaning_at}
use Rattle.rs_trace.specs.Replays.{Plays, Happens, HasRun, Drove, steps_done, Adds, HasDone, IsAtFirst, IsOver, FailsOn, IsPlayed, PlaysOut, AreNamesOf, place_in, name_in}
use Rattle.rs_trace.specs.Text.{whole_lines}
use Rattle.rs_trace.proofs.Behind.{drives_behind}
use Rattle.rs_trace.proofs.PlayLemmas.{stands_first}
use Rattle.rs_trace.proofs.ReplayLemmas.{follows_start}
use mathlib.Core.Bool.{true≢false}

-- what each step keeps, a run of steps keeps
pub led_on : {L : Type 0} (happens : L → links.Step → L → Type 0) (P : L → List Act → Type 0)
    → ((old new : L) (s : links.Step) (acts : List Act) → happens old s new → P old acts → P new (Did s ∷ acts))
    → (run : List links.Step) (old new : L) (acts : List Act) → Leads happens old run new → P old acts → P new (steps_done run acts)
led_on happens P step [] old new acts h p = subst (λ x. P x acts) h p
led_on happens P step (s ∷ run) old new acts h p = step h.0 new s (steps_done run acts) h.2 (led_on happens P step run old h.0 acts h.1 p)

module _ {R W G : Type 0} (takes : R → List ℕ → R → Type 0) (at_end : R → Type 0) (fails : R → ℕ) (puts : W → List ℕ → W → Type 0) (loses : W → ℕ) where
  -- a step was done
  pub did : (names : Names) (reads writes : G) (first : R) (to : W) (acts : List Act) (step : links.Step)
      (names1 : Names) (reads1 writes1 : G) (reader1 : R) (writer1 : W) (r1 : TraceLines) (n1 : ℕ) (stop1 : Option Stop)
      (names2 : Names) (reads2 writes2 : G) (reader2 : R) (writer2 : W) (r2 : TraceLines) (n2 : ℕ) (stop2 : Option Stop)
      → Happens takes at_end fails puts loses names1 reads1 writes1 reader1 writer1 r1 n1 stop1 step names2 reads2 writes2 reader2 writer2 r2 n2 stop2
      → HasDone takes at_end fails puts loses names reads writes first to acts names1 reads1 writes1 reader1 writer1 r1 n1 stop1
      → HasDone takes at_end fails puts loses names reads writes first to (Did step ∷ acts) names2 reads2 writes2 reader2 writer2 r2 n2 stop2
  did names reads writes first to acts step names1 reads1 writes1 reader1 writer1 r1 n1 stop1 names2 reads2 writes2 reader2 writer2 r2 n2 stop2 h d =
      record {
        same_names = h.same_names ∙ d.same_names;
        same_reader = h.same_reader ∙ d.same_reader;
        same_writer = h.same_writer ∙ d.same_writer;
        took = (d.took, h.took);
        plays =
            (subst (λ ns. Plays takes at_end fails puts loses (place_in ns) first to (lines_done acts) (written (name_in names) acts) reader1 writer1 r1 n1 stop1
            → Plays takes at_end fails puts loses (place_in ns) first to (lines_done (Did step ∷ acts)) (written (name_in names) acts ++ line_at (name_in ns) step) reader2 writer2 r2 n2 stop2)
            d.same_names (h.goes first to (lines_done acts) (written (name_in names) acts))) d.plays;
      }

  -- routes were listed after a line that asks for them
  pub listed_lines : (names : Names) (reads writes : G) (first : R) (to : W) (acts : List Act) (c : ℕ) (line : List ℕ)
      (names1 : Names) (reads1 writes1 : G) (reader1 : R) (writer1 : W) (r1 : TraceLines) (n1 : ℕ) (stop1 : Option Stop)
      (names2 : Names) (reads2 writes2 : G) (reader2 : R) (writer2 : W) (r2 : TraceLines) (n2 : ℕ) (stop2 : Option Stop)
      → stop1 ≡ Some (Table c)
      → Adds takes at_end fails puts loses names1 reads1 writes1 reader1 writer1 r1 n1 None line names2 reads2 writes2 reader2 writer2 r2 n2 stop2
      → HasDone takes at_end fails puts loses names reads writes first to acts names1 reads1 writes1 reader1 writer1 r1 n1 stop1
      → HasDone takes at_end fails puts loses names reads writes first to (ListedRoutes c line ∷ acts) names2 reads2 writes2 reader2 writer2 r2 n2 stop2
  listed_lines names reads writes first to acts c line names1 reads1 writes1 reader1 writer1 r1 n1 stop1 names2 reads2 writes2 reader2 writer2 r2 n2 stop2 at h d =
      let p = subst (λ x. Plays takes at_end fails puts loses (place_in names) first to (lines_done acts) (written (name_in names) acts) reader1 writer1 r1 n1 x) at d.plays in
      let resumed : Plays takes at_end fails puts loses (place_in names) first to (lines_done acts ++ (Listed c ∷ [])) (written (name_in names) acts) reader1 writer1 r1 n1 None =
      record { text = p.text; taken = p.taken; stands = p.stands; put = p.put; reads = p.reads; writes = p.writes } in
      record {
        same_names = h.same_names ∙ d.same_names;
        same_reader = h.same_reader ∙ d.same_reader;
        same_writer = h.same_writer ∙ d.same_writer;
        took = d.took;
        plays =
            (subst (λ ns. Plays takes at_end fails puts loses (place_in ns) first to (lines_done acts ++ (Listed c ∷ [])) (written (name_in names) acts) reader1 writer1 r1 n1 None
            → Plays takes at_end fails puts loses (place_in ns) first to (lines_done acts ++ (Listed c ∷ [])) (written (name_in names) acts ++ line) reader2 writer2 r2 n2 stop2)
            d.same_names (h.goes first to (lines_done acts ++ (Listed c ∷ [])) (written (name_in names) acts))) resumed;
      }

-- the step's line of output was written, and the step comes from no line of the trace
pub added_by : {R W G : Type 0} {takes : R → List ℕ → R → Type 0} {at_end : R → Type 0} {fails : R → ℕ} {puts : W → List ℕ → W → Type 0} {loses : W → ℕ}
    {names : Names} {reads writes : G} {reader : R} {writer : W} {r : TraceLines} {n : ℕ} {stop : Option Stop}
    {names2 : Names} {reads2 writes2 : G} {reader2 : R} {writer2 : W} {r2 : TraceLines} {n2 : ℕ} {stop2 : Option Stop}
    (step : links.Step) → TookAll step → meaning_at step ≡ []
    → Adds takes at_end fails puts loses names reads writes reader writer r n stop (line_at (name_in names) step) names2 reads2 writes2 reader2 writer2 r2 n2 stop2
    → Happens takes at_end fails puts loses names reads writes reader writer r n stop step names2 reads2 writes2 reader2 writer2 r2 n2 stop2
added_by {takes = takes} {at_end} {fails} {puts} {loses} {names = names} {reader2 = reader2} {writer2} {r2} {n2} {stop2} step took silent h = record {
  same_names = h.same_names;
  same_reader = h.same_reader;
  same_writer = h.same_writer;
  took = took;
  goes = λ first to s o p. subst (λ xs. Plays takes at_end fails puts loses (place_in names) first to xs (o ++ line_at (name_in names) step) reader2 writer2 r2 n2 stop2)
      (sym (append-nil s) ∙ ap (λ xs. s ++ xs) (sym silent)) (h.goes first to s o p);
}

-- a run of steps to the first stop
pub led_to_stop : {L : Type 0} (happens : L → links.Step → L → Type 0) (P : L → List Act → Type 0)
    → ((old new : L) (s : links.Step) (acts : List Act) → happens old s new → P old acts → P new (Did s ∷ acts))
    → (old new : L) (acts : List Act) → HasStopped happens old new → P old acts → (all : List Act) × P new all
led_to_stop happens P step old new acts h p = (
  Did (links.Happened events.Stop h.octets) ∷ steps_done h.led.run acts,
  step h.before new (links.Happened events.Stop h.octets) (steps_done h.led.run acts) h.stops (led_on happens P step h.led.run old h.before acts h.led.leads p),
)

-- What was done led to this route server and this link.
pub record HasGone {L : Type 0} (P : L → List Act → Type 0) (settings : Configuration) (name : ℕ → List ℕ) (core : Core) (link : L) : Type 0 where
  pub acts : List Act
  pub steps : List links.Step
  pub run : List Move
  pub agrees : Agrees core run
  pub done : P link acts
  pub ran : HasRun settings name acts (course core steps run agrees)
  pub clients : client_count core ≡ length settings.clients

-- and they go on by a drive
pub gone_on : {L : Type 0} (happens : L → links.Step → L → Type 0) (P : L → List Act → Type 0)
    → ((old new : L) (s : links.Step) (acts : List Act) → happens old s new → P old acts → P new (Did s ∷ acts))
    → (settings : Configuration) (name : ℕ → List ℕ) (old : Core) (before : L) (new : Core) (after : L) → client_count new ≡ client_count old → Continues happens old before new after Drives
    → HasGone P settings name old before → HasGone P settings name new after
gone_on happens P step settings name old before new after count c g =
    let on = c.on before [] g.run g.agrees refl in
    record {
      acts = steps_done on.steps g.acts;
      steps = on.steps ++ g.steps;
      run = on.run;
      agrees = on.agrees;
      done = led_on happens P step on.steps before after g.acts on.leads g.done;
      ran = Drove on.steps g.acts (course old g.steps g.run g.agrees) (course new (on.steps ++ g.steps) on.run on.agrees) g.ran
          (drives_behind g.steps (course old [] g.run g.agrees) (course new on.steps on.run on.agrees) on.is) refl;
      clients = count ∙ g.clients;
    }

-- a replay that is over was played
pub played_out : {R W : Type 0} (takes : R → List ℕ → R → Type 0) (at_end : R → Type 0) (puts : W → List ℕ → W → Type 0)
    (settings : Configuration) (names : Names) (first : R) (to : W) (reader : R) (writer : W) (answer : Result (Unit {0}) ReplayFault)
    → AreNamesOf names settings → PlaysOut settings takes at_end puts names first to reader writer answer
    → IsPlayed settings (λ text. takes first text reader) (at_end reader) (λ octets. puts to octets writer) answer
played_out takes at_end puts settings names first to reader writer answer named o =
    record { names = names; named = named; acts = o.acts; text = o.over.text; taken = o.over.taken; ends = o.over.ends; gives = o.over.gives; took = o.took; course = o.course; ran = o.ran }

-- and it is so by whatever names the reader and the writer go at the end
pub played_at : {R W : Type 0} (takes : R → List ℕ → R → Type 0) (at_end : R → Type 0) (puts : W → List ℕ → W → Type 0)
    (settings : Configuration) (first : R) (to : W) (answer : Result (Unit {0}) ReplayFault) (reader last : R) (writer wrote : W)
    → reader ≡ last → writer ≡ wrote
    → IsPlayed settings (λ text. takes first text reader) (at_end reader) (λ octets. puts to octets writer) answer
    → IsPlayed settings (λ text. takes first text last) (at_end last) (λ octets. puts to octets wrote) answer
played_at takes at_end puts settings first to answer reader last writer wrote e f h =
    subst (λ r. IsPlayed settings (λ text. takes first text r) (at_end r) (λ octets. puts to octets wrote) answer) e
    (subst (λ w. IsPlayed settings (λ text. takes first text reader) (at_end reader) (λ octets. puts to octets w) answer) f h)

-- the fault of a stop
abbrev fault_in : Option Stop → ReplayFault
fault_in None = Memory
fault_in (Some End) = Memory
fault_in (Some (Table c)) = Memory
fault_in (Some (Fault fault)) = fault

module _ {R W : Type 0} (takes : R → List ℕ → R → Type 0) (at_end : R → Type 0) (fails : R → ℕ) (puts : W → List ℕ → W → Type 0) (loses : W → ℕ)
    (place : List ℕ → Option ℕ) (first : R) (to : W) (meanings : List LineMeaning) (octets : List ℕ) (reader : R) (writer : W) (r : TraceLines) (n : ℕ) where
  pub over_at_end : Plays takes at_end fails puts loses place first to meanings octets reader writer r n (Some End) → IsOver takes at_end puts place first to meanings octets reader writer (Ok tt)
  over_at_end p = record { text = p.text; taken = p.taken; ends = p.stands; gives = p.put }

  -- after a failure
  pub over_failed : (fault : ReplayFault) → ((m : ℕ) (f : LineFault) → fault ≡ Line m f → ⊥)
      → Plays takes at_end fails puts loses place first to meanings octets reader writer r n (Some (Fault fault)) → IsOver takes at_end puts place first to meanings octets reader writer (Err fault)
  over_failed (Line m f) other p = absurd (other m f refl)
  over_failed Memory other p = record { text = p.text; taken = p.taken; ends = p.stands; gives = inl p.put }
  over_failed Reading other p = record { text = p.text; taken = p.taken; ends = p.stands; gives = p.put }
  over_failed Writing other p = record { text = p.text; taken = p.taken; ends = p.stands; gives = inl p.put }

  -- with the line of a line's fault as the last, or with a front of it
  pub over_line : (m : ℕ) (fault : LineFault) (last : W) (after : Option Stop)
      → Plays takes at_end fails puts loses place first to meanings octets reader writer r n (Some (Fault (Line m fault)))
      → (Puts (λ xs. puts to xs writer) octets (Some (Fault (Line m fault))) → Puts (λ xs. puts to xs last) (octets ++ fault_line m fault) after)
      → FailsOn (Some (Fault (Line m fault))) after
      → (answer : ReplayFault) → after ≡ Some (Fault answer) → IsOver takes at_end puts place first to meanings octets reader last (Err answer)
  over_line m fault last after p put fails answer at = over_by fails where
    puts_it : ReplayFault → Type 0
    puts_it f = Puts (λ xs. puts to xs last) (octets ++ fault_line m fault) (Some (Fault f))

    is_over : ReplayFault → Type 0
    is_over f = IsOver takes at_end puts place first to meanings octets reader last (Err f)

    q : puts_it answer
    q = subst (λ x. Puts (λ xs. puts to xs last) (octets ++ fault_line m fault) x) at (put p.put)

    first_meant : MeansFirst place p.text meanings
    first_meant = stands_first place p.text (at_end reader) meanings n r (Some (Fault (Line m fault))) p.stands

    as_it_was : puts_it (Line m fault) → is_over (Line m fault)
    as_it_was h = record { text = p.text; taken = p.taken; ends = p.stands; gives = h }

    at_memory : puts_it Memory → is_over Memory
    at_memory h = record { text = p.text; taken = p.taken; ends = first_meant; gives = inr (m, fault, p.stands, h) }

    at_writing : puts_it Writing → is_over Writing
    at_writing h = record { text = p.text; taken = p.taken; ends = first_meant; gives = inr (m, fault, p.stands, h) }

    moved : (f : ReplayFault) → (puts_it f → is_over f) → answer ≡ f → is_over answer
    moved f h e = subst (λ x. puts_it x → is_over x) (sym e) h q

    over_by : FailsOn (Some (Fault (Line m fault))) after → is_over answer
    over_by (inl e) = moved (Line m fault) as_it_was (ap fault_in (sym at ∙ e))
    over_by (inr (inl e)) = moved Memory at_memory (ap fault_in (sym at ∙ e.1))
    over_by (inr (inr e)) = moved Writing at_writing (ap fault_in (sym at ∙ e.1))

-- nothing was done yet
pub done_first : {R W G : Type 0} (takes : R → List ℕ → R → Type 0) (at_end : R → Type 0) (fails : R → ℕ) (puts : W → List ℕ → W → Type 0) (loses : W → ℕ)
    (names : Names) (reads writes : G) (reader : R) (writer : W) (r : TraceLines) (n : ℕ) (stop : Option Stop)
    → takes reader [] reader → puts writer [] writer → IsAtFirst r n stop
    → HasDone takes at_end fails puts loses names reads writes reader writer [] names reads writes reader writer r n stop
done_first takes at_end fails puts loses names reads writes reader writer r n stop taken put f = record {
  same_names = refl;
  same_reader = refl;
  same_writer = refl;
  took = tt;
  plays = subst (λ x. Plays takes at_end fails puts loses (place_in names) reader writer [] [] reader writer r n x) (sym f.running)
      (subst (λ (k : ℕ). Plays takes at_end fails puts loses (place_in names) reader writer [] [] reader writer r k None) (sym f.number) (record {
        text = [];
        taken = taken;
        stands = (follows_start (place_in names) r f.rest f.no_text, λ e. absurd (true≢false (sym e ∙ f.goes)), inl (sym (ap (λ xs. 0 + whole_lines xs) f.rest)));
        put = put;
        reads = refl;
        writes = refl;
      }));
}
