-- From what a reader gives to what a writer is given.
use Rattle.std.specs.Prelude.{◌≡◌, ◌⊎◌, ℕ, List, [], ◌∷◌, ◌++◌, length, map, false, Option, Some, None, Result, Ok, Err, position, bytes_eq, slice_get}
use Rattle.rs_policy.specs.Configuration.{Configuration}
use Rattle.rs_core.specs.Drives.Steps as links
use Rattle.rs_core.specs.Run.Moves.{Ruled}
use Rattle.rs_core.specs.Core.{client_count}
use Rattle.rs_core.specs.Run.Agreeing.{Agrees}
use Rattle.rs_core.specs.Drives.Courses.{Course}
use Rattle.rs_core.specs.Drives.Answers.{Drives}
use Rattle.rs_core.specs.Drives.Serving.{start}
use Rattle.rs_core.specs.declared.route_server.Core.{Core}
use Rattle.rs_trace.specs.declared.trace.LineFault.{LineFault}
use Rattle.rs_core.specs.declared.links.Event.{Event}
use Rattle.rs_trace.specs.declared.names.Names.{Names}
use Rattle.rs_trace.specs.declared.fault.ReplayFault.{ReplayFault}
use Rattle.rs_trace.specs.declared.fault.ReplayFault.TheVariants.{Line, Memory, Reading, Writing}
use Rattle.rs_trace.specs.declared.fault.Stop.{Stop}
use Rattle.rs_trace.specs.declared.fault.Stop.TheVariants.{End, Fault}
use Rattle.rs_trace.specs.declared.trace_lines.TraceLines.{TraceLines}
use Rattle.rs_trace.specs.Output.{fault_line}
use Rattle.rs_trace.specs.Trace.{LineMeaning}
use Rattle.rs_trace.specs.Tables.{ListsOf}
use Rattle.rs_trace.specs.Text.{lines_of, outcome, tells, IsRead}
use Rattle.rs_trace.specs.Played.{Act, Did, ListedRoutes, lines_done, written, meaning_at, meaning_of_event, line_at, TookAll, AllTookAll, MeansFirst, Stands, PutsFront, Puts, failed, failures_read, failures_written}

-- the client of a name, and the name of a client
abbrev pub place_in : Names → List ℕ → Option ℕ
place_in names text = position (λ name. bytes_eq name.items text) names.names.items

abbrev pub name_or_none : Option (List ℕ) → List ℕ
name_or_none None = []
name_or_none (Some name) = name

abbrev pub name_in : Names → ℕ → List ℕ
name_in names c = name_or_none (slice_get (map (λ name. name.items) names.names.items) c)

abbrev pub stop_of : {A : Type 0} → Result A Stop → Option Stop
stop_of (Ok value) = None
stop_of (Err stop) = Some stop

-- what the trace says of an event, where there is one
abbrev pub meanings_in : List ℕ → List ℕ → Result (Option Event) Stop → List LineMeaning
meanings_in piece rules (Ok None) = []
meanings_in piece rules (Ok (Some event)) = meaning_of_event event (links.octets_of event piece rules)
meanings_in piece rules (Err stop) = []

abbrev pub meaning_read : List ℕ → List ℕ → Result Event Stop → List LineMeaning
meaning_read piece rules (Ok event) = meaning_of_event event (links.octets_of event piece rules)
meaning_read piece rules (Err stop) = []

-- More octets were taken, and with them the text says this much more.
abbrev pub ReadsOn : {R : Type 0} → (R → List ℕ → R → Type 0) → (R → Type 0) → (List ℕ → Option ℕ) → R → ℕ → TraceLines → R → ℕ → TraceLines → List LineMeaning → Option Stop → Type 0
ReadsOn takes at_end place old n r new m q more stop =
    (text : List ℕ) (meanings : List LineMeaning) → Stands place text (at_end old) meanings n r None →
    (taken : List ℕ) × takes old taken new × Stands place (text ++ taken) (at_end new) (meanings ++ more) m q stop

-- nothing failed, or what had failed before is the last failure, or writing failed now
abbrev pub FailsOn : Option Stop → Option Stop → Type 0
FailsOn stop after = (after ≡ stop) ⊎ ((failed stop ≡ false) × (after ≡ Some (Fault Memory))) ⊎ ((failed stop ≡ false) × (after ≡ Some (Fault Writing)))

-- Since the first reader and writer these lines were done and this output came of them, and now all stands so.
pub record Plays {R W : Type 0} (takes : R → List ℕ → R → Type 0) (at_end : R → Type 0) (fails : R → ℕ) (puts : W → List ℕ → W → Type 0) (loses : W → ℕ)
    (place : List ℕ → Option ℕ) (first : R) (to : W) (meanings : List LineMeaning) (octets : List ℕ) (reader : R) (writer : W) (r : TraceLines) (n : ℕ) (stop : Option Stop) : Type 0 where
  pub text : List ℕ
  pub taken : takes first text reader
  pub stands : Stands place text (at_end reader) meanings n r stop
  pub put : Puts (λ xs. puts to xs writer) octets stop
  pub reads : fails reader ≡ failures_read stop (fails first)
  pub writes : loses writer ≡ failures_written stop (loses to)

-- the stop that a replay with this answer came to
abbrev pub end_of : Result (Unit {0}) ReplayFault → Option Stop
end_of (Ok done) = Some End
end_of (Err fault) = Some (Fault fault)

-- what was done is what the text says up to its first fault: this one, of a line that was read
abbrev pub EndsAt : (List ℕ → Option ℕ) → List ℕ → Type 0 → List LineMeaning → ℕ → LineFault → Type 0
EndsAt place text over meanings m fault = (outcome place 1 (lines_of text) ≡ tells meanings (Some (m, fault))) × IsRead text m fault over

-- how the text ends in the answer of a replay
abbrev pub Ends : (List ℕ → Option ℕ) → List ℕ → Type 0 → List LineMeaning → Result (Unit {0}) ReplayFault → Type 0
Ends place text over meanings (Ok done) = (outcome place 1 (lines_of text) ≡ tells meanings None) × over
Ends place text over meanings (Err (Line m fault)) = EndsAt place text over meanings m fault
Ends place text over meanings (Err Memory) = MeansFirst place text meanings
Ends place text over meanings (Err Reading) = MeansFirst place text meanings
Ends place text over meanings (Err Writing) = MeansFirst place text meanings

-- a front of these octets was put; or the text ends at a fault, and the front goes on into that fault's line
abbrev pub BreaksOff : (ℕ → LineFault → Type 0) → (List ℕ → Type 0) → List ℕ → Type 0
BreaksOff ends put octets = PutsFront put octets ⊎ ((m : ℕ) × (fault : LineFault) × ends m fault × PutsFront put (octets ++ fault_line m fault))

-- the output: all of it, with the line of a line's fault as the last, or a front of it
abbrev pub Gives : (ℕ → LineFault → Type 0) → (List ℕ → Type 0) → List ℕ → Result (Unit {0}) ReplayFault → Type 0
Gives ends put octets (Ok done) = put octets
Gives ends put octets (Err (Line m fault)) = put (octets ++ fault_line m fault)
Gives ends put octets (Err Memory) = BreaksOff ends put octets
Gives ends put octets (Err Reading) = PutsFront put octets
Gives ends put octets (Err Writing) = BreaksOff ends put octets

-- the names are those of the configuration, in its order
abbrev pub AreNamesOf : Names → Configuration → Type 0
AreNamesOf names settings = map (λ name. name.items) names.names.items ≡ map (λ client. client.name) settings.clients

-- the acts of steps, before which others were done
abbrev pub steps_done : List links.Step → List Act → List Act
steps_done [] acts = acts
steps_done (s ∷ run) acts = Did s ∷ steps_done run acts

-- What was done is what a link and a route server do together in drives, one after the other, and between them the lines of a
-- client's Loc-RIB, as it is then, were written. By it they came to this course: all the steps of the link, the run that these make,
-- and the route server at hand.
pub data HasRun (settings : Configuration) (name : ℕ → List ℕ) : List Act → Course → Type 0 where
  Begins : (core : Core) (agrees : Agrees core (Ruled settings ∷ [])) → client_count core ≡ length settings.clients → HasRun settings name [] (start settings core agrees)
  Drove : (more : List links.Step) (acts : List Act) (x y : Course) → HasRun settings name acts x → Drives x y → y.steps ≡ more ++ x.steps
      → HasRun settings name (steps_done more acts) y
  Tells : (c : ℕ) (listed_lines : List ℕ) (acts : List Act) (x : Course) → HasRun settings name acts x
      → ListsOf (length settings.clients) x.run c (name c) listed_lines → HasRun settings name (ListedRoutes c listed_lines ∷ acts) x

-- The octets that were taken say what was done, in that order, and the octets that were put are its output. What was done led to
-- this course of the link and the route server, and each offer took all.
pub record IsPlayed (settings : Configuration) (takes : List ℕ → Type 0) (over : Type 0) (put : List ℕ → Type 0) (result : Result (Unit {0}) ReplayFault) : Type 0 where
  pub names : Names
  pub named : AreNamesOf names settings
  pub acts : List Act
  pub text : List ℕ
  pub taken : takes text
  pub ends : Ends (place_in names) text over (lines_done acts) result
  pub gives : Gives (EndsAt (place_in names) text over (lines_done acts)) put (written (name_in names) acts) result
  pub took : AllTookAll acts
  pub course : Course
  pub ran : HasRun settings (name_in names) acts course

-- nothing was read yet, and the core was not stopped
pub record IsAtFirst (r : TraceLines) (n : ℕ) (stop : Option Stop) : Type 0 where
  pub rest : r.lines.rest ≡ []
  pub goes : r.lines.is_over ≡ false
  pub no_text : r.text.items ≡ []
  pub number : n ≡ 0
  pub running : stop ≡ None

-- Want of memory may come before the configuration's names are there.
abbrev pub HasPlayed : Configuration → (List ℕ → Type 0) → Type 0 → (List ℕ → Type 0) → Result (Unit {0}) ReplayFault → Type 0
HasPlayed settings takes over put result = IsPlayed settings takes over put result ⊎ ((result ≡ Err Memory) × takes [] × put [])

-- A recording goes on from an old state to a new one by a step of the core's link: it has the same names, reader and writer; of an
-- offer all is taken; and what was done and written before is followed by the line of the trace that the step comes from, if any, and
-- by the step's line of output.
pub record Happens {R W G : Type 0} (takes : R → List ℕ → R → Type 0) (at_end : R → Type 0) (fails : R → ℕ) (puts : W → List ℕ → W → Type 0) (loses : W → ℕ)
    (names : Names) (reads writes : G) (reader : R) (writer : W) (r : TraceLines) (n : ℕ) (stop : Option Stop) (step : links.Step)
    (names2 : Names) (reads2 writes2 : G) (reader2 : R) (writer2 : W) (r2 : TraceLines) (n2 : ℕ) (stop2 : Option Stop) : Type 0 where
  pub same_names : names2 ≡ names
  pub same_reader : reads2 ≡ reads
  pub same_writer : writes2 ≡ writes
  pub took : TookAll step
  pub goes : (first : R) (to : W) (meanings : List LineMeaning) (octets : List ℕ) → Plays takes at_end fails puts loses (place_in names) first to meanings octets reader writer r n stop →
      Plays takes at_end fails puts loses (place_in names) first to (meanings ++ meaning_at step) (octets ++ line_at (name_in names) step) reader2 writer2 r2 n2 stop2

-- A recording goes on by a line of output that no step of the core's link asks for: what was done stays, and the line comes after what
-- was written.
pub record Adds {R W G : Type 0} (takes : R → List ℕ → R → Type 0) (at_end : R → Type 0) (fails : R → ℕ) (puts : W → List ℕ → W → Type 0) (loses : W → ℕ)
    (names : Names) (reads writes : G) (reader : R) (writer : W) (r : TraceLines) (n : ℕ) (stop : Option Stop) (line : List ℕ)
    (names2 : Names) (reads2 writes2 : G) (reader2 : R) (writer2 : W) (r2 : TraceLines) (n2 : ℕ) (stop2 : Option Stop) : Type 0 where
  pub same_names : names2 ≡ names
  pub same_reader : reads2 ≡ reads
  pub same_writer : writes2 ≡ writes
  pub goes : (first : R) (to : W) (meanings : List LineMeaning) (octets : List ℕ) → Plays takes at_end fails puts loses (place_in names) first to meanings octets reader writer r n stop →
      Plays takes at_end fails puts loses (place_in names) first to meanings (octets ++ line) reader2 writer2 r2 n2 stop2

-- What was read up to here says what was done, and the replay ends with this answer.
pub record IsOver {R W : Type 0} (takes : R → List ℕ → R → Type 0) (at_end : R → Type 0) (puts : W → List ℕ → W → Type 0)
    (place : List ℕ → Option ℕ) (first : R) (to : W) (meanings : List LineMeaning) (octets : List ℕ) (reader : R) (writer : W) (answer : Result (Unit {0}) ReplayFault) : Type 0 where
  pub text : List ℕ
  pub taken : takes first text reader
  pub ends : Ends place text (at_end reader) meanings answer
  pub gives : Gives (EndsAt place text (at_end reader) meanings) (λ xs. puts to xs writer) octets answer

-- Some acts were done since the first reader and writer, and then the replay ended with this answer. Each offer took all.
pub record PlaysOut {R W : Type 0} (settings : Configuration) (takes : R → List ℕ → R → Type 0) (at_end : R → Type 0) (puts : W → List ℕ → W → Type 0)
    (names : Names) (first : R) (to : W) (reader : R) (writer : W) (answer : Result (Unit {0}) ReplayFault) : Type 0 where
  pub acts : List Act
  pub course : Course
  pub ran : HasRun settings (name_in names) acts course
  pub took : AllTookAll acts
  pub over : IsOver takes at_end puts (place_in names) first to (lines_done acts) (written (name_in names) acts) reader writer answer

-- So it ended, and its course came to this route server.
pub record PlaysTo {R W : Type 0} (settings : Configuration) (takes : R → List ℕ → R → Type 0) (at_end : R → Type 0) (puts : W → List ℕ → W → Type 0)
    (names : Names) (first : R) (to : W) (reader : R) (writer : W) (core : Core) (answer : Result (Unit {0}) ReplayFault) : Type 0 where
  pub out : PlaysOut settings takes at_end puts names first to reader writer answer
  pub at : out.course.core ≡ core

-- Since the first reader and writer these acts were done, by a recording with these names, and now all stands so.
pub record HasDone {R W G : Type 0} (takes : R → List ℕ → R → Type 0) (at_end : R → Type 0) (fails : R → ℕ) (puts : W → List ℕ → W → Type 0) (loses : W → ℕ)
    (names : Names) (reads writes : G) (first : R) (to : W) (acts : List Act)
    (names2 : Names) (reads2 writes2 : G) (reader : R) (writer : W) (r : TraceLines) (n : ℕ) (stop : Option Stop) : Type 0 where
  pub same_names : names2 ≡ names
  pub same_reader : reads2 ≡ reads
  pub same_writer : writes2 ≡ writes
  pub took : AllTookAll acts
  pub plays : Plays takes at_end fails puts loses (place_in names) first to (lines_done acts) (written (name_in names) acts) reader writer r n stop
