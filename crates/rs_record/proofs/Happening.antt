-- A record goes on by each step of a link that is recorded.
use Rattle.std.proofs.Common.{◌≡◌, ◌∙◌, sym, refl, ℕ, Bool, List, [], ◌∷◌, Option, None, subst}
use Rattle.rs_core.specs.Drives.Steps.{Step, Happened}
use Rattle.rs_core.specs.Drives.Courses.{Continues}
use Rattle.rs_core.specs.Drives.Answers.{Drives}
use Rattle.rs_core.specs.declared.links.Event.{Event}
use Rattle.rs_core.specs.declared.route_server.Core.{Core}
use Rattle.rs_record.specs.declared.client_names.ClientNames.{ClientNames}
use Rattle.rs_record.specs.declared.event_lines.RecordFault.{RecordFault}
use Rattle.rs_record.specs.declared.recorded.Recorded.{Recorded}
use Rattle.rs_record.specs.declared.recorder.Pending.{Pending}
use Rattle.rs_record.specs.declared.recorder.Pending.TheVariants.{Nothing}
use Rattle.rs_record.specs.declared.recorder.Recorder.{Recorder}
use Rattle.rs_record.specs.Happening.{Happens}
use Rattle.rs_record.specs.Accounts.{Account, account, extended, newest}
use Rattle.rs_record.specs.Named.{count_of}
use Rattle.rs_record.specs.Records.{AddsLines, DrivesRecorded, IsRecord, Keeps, goes}
use Rattle.rs_record.proofs.Recording.{begins, keeps_first, keeps_more, keeps_on}
use Rattle.rs_record.proofs.Wrapped.{adds_driven}

-- the steps so far are recorded, by these names
abbrev pub HasKept : {T : Type 0} → (T → Bool) → (T → List ℕ) → ClientNames → Bool → List ℕ → Recorder → T → List Step → Type 0
HasKept is_over holds names went held recorder tape steps =
    (recorder.names ≡ names) × Keeps names.names went held steps recorder.fault (is_over tape) (holds tape) recorder.line.items recorder.pending

pub has_kept : {L T G H K : Type 0} (happens : L → Step → L → Type 0) (is_over : T → Bool) (holds : T → List ℕ)
    (to_link : G) (to_recorder : H) (to_tape : K) (link : L) (recorder : Recorder) (tape : T) (step : Step)
    (to_link2 : G) (to_recorder2 : H) (to_tape2 : K) (link2 : L) (recorder2 : Recorder) (tape2 : T)
    (names : ClientNames) (went : Bool) (held : List ℕ) (steps : List Step)
    → Happens happens is_over holds to_link to_recorder to_tape link recorder tape step to_link2 to_recorder2 to_tape2 link2 recorder2 tape2
    → HasKept is_over holds names went held recorder tape steps → HasKept is_over holds names went held recorder2 tape2 (step ∷ steps)
has_kept happens is_over holds to_link to_recorder to_tape link recorder tape step to_link2 to_recorder2 to_tape2 link2 recorder2 tape2 names went held steps h kept = (
  h.same_names ∙ kept.0,
  subst (λ (ns : ClientNames). Keeps ns.names went held steps recorder.fault (is_over tape) (holds tape) recorder.line.items recorder.pending
      → Keeps ns.names went held (step ∷ steps) recorder2.fault (is_over tape2) (holds tape2) recorder2.line.items recorder2.pending)
      kept.0 (h.keeps went held steps) kept.1,
)

-- what is left once the newest event is over
abbrev pub Closes : {T : Type 0} → (T → Bool) → (T → List ℕ) → Recorder → T → Option RecordFault → T → Type 0
Closes is_over holds recorder tape fault tape2 =
    (went : Bool) (held : List ℕ) (steps : List Step) → Keeps recorder.names.names went held steps recorder.fault (is_over tape) (holds tape) recorder.line.items recorder.pending
    → IsRecord recorder.names.names went steps fault (is_over tape2) held (holds tape2)

module _ {L T G H K : Type 0} (happens : L → Step → L → Type 0) (is_over : T → Bool) (holds : T → List ℕ) (to_link : G) (to_recorder : H) (to_tape : K) (link link2 : L) where
  -- a step of which nothing is said
  pub happens_on : (recorder : Recorder) (tape : T) (step : Step) → ((n : ℕ) (steps : List Step) → account n (step ∷ steps) ≡ account n steps) → happens link step link2
      → Happens happens is_over holds to_link to_recorder to_tape link recorder tape step to_link to_recorder to_tape link2 recorder tape
  happens_on recorder tape step is h = record {
    same_link = refl;
    same_recorder = refl;
    same_tape = refl;
    same_names = refl;
    linked = h;
    keeps = λ went held steps k.
        keeps_on recorder.names.names went held steps recorder.fault (is_over tape) (holds tape) recorder.line.items recorder.pending step (is (count_of recorder.names.names) steps) k;
  }

  -- a step of which more is said
  pub happens_more : (recorder recorder2 : Recorder) (tape : T) (step : Step) (more : ℕ → Pending → Account)
      → ((n : ℕ) (steps : List Step) → account n (step ∷ steps) ≡ extended (account n steps).said (more n (account n steps).pending)) → happens link step link2
      → recorder2.names ≡ recorder.names → recorder2.pending ≡ (more (count_of recorder.names.names) recorder.pending).pending → (recorder2.fault ≡ None → recorder.fault ≡ None)
      → (recorder2.fault ≡ None → AddsLines recorder.names.names recorder.line.items recorder2.line.items (more (count_of recorder.names.names) recorder.pending).said)
      → Happens happens is_over holds to_link to_recorder to_tape link recorder tape step to_link to_recorder to_tape link2 recorder2 tape
  happens_more recorder recorder2 tape step more is h names at fine says = record {
    same_link = refl;
    same_recorder = refl;
    same_tape = refl;
    same_names = names;
    linked = h;
    keeps = λ went held steps k.
        keeps_more recorder.names.names went held steps recorder.fault (is_over tape) (holds tape) recorder.line.items recorder.pending step (more (count_of recorder.names.names))
        recorder2.fault recorder2.line.items recorder2.pending (is (count_of recorder.names.names) steps) at fine says k;
  }

  -- an event comes, once the one before it is over
  pub happens_next : (recorder mid recorder2 : Recorder) (tape tape2 : T) (event : Event) (octets : List ℕ) → happens link (Happened event octets) link2
      → mid.names ≡ recorder.names → mid.line.items ≡ [] → Closes is_over holds recorder tape mid.fault tape2
      → recorder2.names ≡ mid.names → recorder2.pending ≡ (newest (count_of mid.names.names) event octets).pending → (recorder2.fault ≡ None → mid.fault ≡ None)
      → (recorder2.fault ≡ None → AddsLines mid.names.names mid.line.items recorder2.line.items (newest (count_of mid.names.names) event octets).said)
      → Happens happens is_over holds to_link to_recorder to_tape link recorder tape (Happened event octets) to_link to_recorder to_tape link2 recorder2 tape2
  happens_next recorder mid recorder2 tape tape2 event octets h same empty closes names at fine says = record {
    same_link = refl;
    same_recorder = refl;
    same_tape = refl;
    same_names = names ∙ same;
    linked = h;
    keeps = λ went held steps k.
        let by : ClientNames → Type 0 = λ (ns : ClientNames). IsRecord ns.names went steps mid.fault (is_over tape2) held (holds tape2)
        → Keeps ns.names went held (Happened event octets ∷ steps) recorder2.fault (is_over tape2) (holds tape2) recorder2.line.items recorder2.pending in
        let begun : by mid.names = begins mid.names.names went held steps mid.fault (is_over tape2) (holds tape2) mid.line.items mid.pending event octets recorder2.fault recorder2.line.items recorder2.pending empty at fine says in
        subst by same begun (closes went held steps k);
  }

-- a step of the link around the link
abbrev pub Outer : {L T : Type 0} → (L → Step → L → Type 0) → (T → Bool) → (T → List ℕ) → Recorded L T → Step → Recorded L T → Type 0
Outer happens is_over holds a s b =
    Happens happens is_over holds a.link.ghost_name a.recorder.ghost_name a.tape.ghost_name a.link.now a.recorder.now a.tape.now s
    b.link.ghost_name b.recorder.ghost_name b.tape.ghost_name b.link.now b.recorder.now b.tape.now

-- a drive of the link around the link is one of the link, and is recorded
pub records_drive : {L T : Type 0} (happens : L → Step → L → Type 0) (is_over : T → Bool) (holds : T → List ℕ) (core later : Core) (made last : Recorded L T) (fault : Option RecordFault) (tape : T)
    → made.recorder.now.line.items ≡ [] → made.recorder.now.pending ≡ Nothing → Closes is_over holds last.recorder.now last.tape.now fault tape
    → Continues (Outer happens is_over holds) core made later last Drives
    → Continues happens core made.link.now later last.link.now (DrivesRecorded made.recorder.now.names.names (goes made.recorder.now.fault (is_over made.tape.now)) fault (is_over tape) (holds made.tape.now) (holds tape))
records_drive {L} {T} happens is_over holds core later made last fault tape empty waits closes on =
    let names : ClientNames = made.recorder.now.names in
    let went : Bool = goes made.recorder.now.fault (is_over made.tape.now) in
    let held : List ℕ = holds made.tape.now in
    adds_driven (Outer happens is_over holds) happens (λ (w : Recorded L T). w.link.now) (λ a b s h. h.linked)
    (λ (w : Recorded L T) (steps : List Step). HasKept is_over holds names went held w.recorder.now w.tape.now steps)
    (λ a b s steps h kept. has_kept happens is_over holds a.link.ghost_name a.recorder.ghost_name a.tape.ghost_name a.link.now a.recorder.now a.tape.now s
    b.link.ghost_name b.recorder.ghost_name b.tape.ghost_name b.link.now b.recorder.now b.tape.now names went held steps h kept)
    (DrivesRecorded names.names went fault (is_over tape) held (holds tape)) core made later last
    (λ x y drives more parts kept. record {
      drives = drives;
      more = more;
      steps = parts;
      are = subst (λ (ns : ClientNames). Keeps ns.names went held more last.recorder.now.fault (is_over last.tape.now) (holds last.tape.now) last.recorder.now.line.items last.recorder.now.pending
          → IsRecord ns.names went more fault (is_over tape) held (holds tape)) kept.0 (closes went held more) kept.1;
    })
    (refl, keeps_first names.names made.recorder.now.fault (is_over made.tape.now) held made.recorder.now.line.items made.recorder.now.pending empty waits)
    on

-- by whatever names all of them go
pub recorded_at : {L T : Type 0} (happens : L → Step → L → Type 0) (is_over : T → Bool) (holds : T → List ℕ) (core later : Core) (made last link link2 : L) (names names2 : ClientNames) (fault fault2 before before2 : Option RecordFault) (old old2 tape tape2 : T)
    → made ≡ link → last ≡ link2 → names ≡ names2 → before ≡ before2 → old ≡ old2 → fault ≡ fault2 → tape ≡ tape2
    → Continues happens core made later last (DrivesRecorded names.names (goes before (is_over old)) fault (is_over tape) (holds old) (holds tape))
    → Continues happens core link later link2 (DrivesRecorded names2.names (goes before2 (is_over old2)) fault2 (is_over tape2) (holds old2) (holds tape2))
recorded_at happens is_over holds core later made last link link2 names names2 fault fault2 before before2 old old2 tape tape2 e1 e2 e3 e4 e5 e6 e7 h =
    rw (sym e1) (rw (sym e2) (rw (sym e3) (rw (sym e4) (rw (sym e5) (rw (sym e6) (rw (sym e7) h))))))
