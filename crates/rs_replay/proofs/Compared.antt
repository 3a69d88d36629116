-- What is found by connections is what is found by what a text says.
use Rattle.std.proofs.Common.{◌≡◌, ◌∙◌, ◌⊎◌, inl, inr, ◌<◌, ◌≤◌, ◌+◌, ℕ, Bool, true, false, List, length, refl, sym, ap, subst, arith}
use Rattle.std.specs.Prelude.{Option, Some, None, Result, Ok, Err, IfOk, ◌≢◌, slice_get, get_or, if◌then◌else◌}
use Rattle.std.proofs.lemmas.Option.{slice_get_cases}
use Rattle.rs_session.specs.Sessions.{mode_by}
use Rattle.rs_session.proofs.Lasting.{brings_up}
use Rattle.rs_attrs.specs.declared.mode.Mode.{Mode}
use Rattle.rs_core.specs.Core.{client_count}
use Rattle.rs_core.specs.Run.Agreeing.{Agrees}
use Rattle.rs_core.specs.Run.Moves.{Move, config_in}
use Rattle.rs_core.specs.Run.Meaning.{hearing, is_established}
use Rattle.rs_core.specs.Session.Hearing.{mode_in, session_in, state_in}
use Rattle.rs_core.specs.declared.route_server.Core.{Core}
use Rattle.rs_core.proofs.Run.Holding.{up_is}
use Rattle.rs_trace.specs.declared.fault.ReplayFault.{ReplayFault}
use Rattle.rs_trace.specs.declared.fault.ReplayFault.TheVariants.{Line, Memory, Reading, Writing}
use Rattle.rs_trace.specs.declared.names.Names.{Names}
use Rattle.rs_trace.specs.declared.replay.Played.{Played}
use Rattle.rs_replay.specs.declared.connection.Connection.{Connection}
use Rattle.rs_replay.specs.declared.playing.Outcome.{Outcome}
use Rattle.rs_replay.specs.declared.playing.Outcome.TheVariants.{BadFile, Differs, Good}
use Rattle.rs_replay.specs.Comparing.{Compares, ComparesBy}
use Rattle.rs_replay.specs.Findings.{AreFindings, Down, Finding, OfNone, Table, Up}
use Rattle.rs_replay.specs.Sent.{IsSent, sent_to}
use Rattle.rs_replay.specs.Sendings.{MeansSent}
use Rattle.rs_replay.specs.SentLines.{Said}
use Rattle.rs_replay.specs.Taking.{HaveTaken, IsBad, ReadsSent}
use Rattle.rs_replay.specs.Telling.{IsSentBy, Tells, sent_by, sent_if}

-- the session of a client that is Established has a mode
moded : (run : List Move) (c : ℕ) → is_established run c ≡ true → (mode : Mode) × (mode_in (config_in run) c (hearing c run) ≡ Some mode)
moded run c up =
    let brought = brings_up (session_in (config_in run) c) (hearing c run).items (up_is (state_in (config_in run) c (hearing c run)) up) in
    (_, (λ i. if up i then mode_by (brought.agreed i) else None))

found_of : (run : List Move) (A B : ℕ → Option Table → Type 0) (n : ℕ) (findings : List (ℕ × Finding)) → ((c : ℕ) (sent : Option Table) → c < n → is_established run c ≡ true → A c sent → B c sent)
    → AreFindings run A n findings → AreFindings run B n findings
found_of run A B _ _ each OfNone = OfNone
found_of run A B _ _ each (Down c findings are down) = Down c findings (found_of run A B c findings (λ d sent lt. each d sent (omega (arith, lt))) are) down
found_of run A B _ _ each (Up c findings finding sent are up is found) =
    Up c findings finding sent (found_of run A B c findings (λ d sent lt. each d sent (omega (arith, lt))) are) up (each c sent (omega arith) up is) found

is_sent : (core : Core) (entries : List Said) (connections : List Connection) (run : List Move) → length connections ≡ client_count core → HaveTaken core entries connections → Agrees core run
    → (c : ℕ) (sent : Option Table) → c < client_count core → is_established run c ≡ true → IsSentBy connections c sent → IsSent run entries c sent
is_sent core entries connections run count have agrees c sent lt up is =
    let mode = moded run c up in
    by_place mode.0 mode.1 ((slice_get_cases connections c).1)
  where
    by_place : (m : Mode) → mode_in (config_in run) c (hearing c run) ≡ Some m
        → ((x : Connection) × (c < length connections) × (slice_get connections c ≡ Some x) × (get_or connections c x ≡ x)) ⊎ ((length connections ≤ c) × (slice_get connections c ≡ None))
        → IsSent run entries c sent
    by_place m is_mode (inl (x, _, at, _)) =
        let on : sent ≡ sent_if (Some x) = is ∙ ap sent_if at in
        record { mode = m; is_mode = is_mode; means = subst (λ o. MeansSent m (sent_to entries c) o) (sym on) (have run agrees c x m at is_mode).0 }
    by_place m is_mode (inr (beyond, _)) = absurd (omega (arith, beyond, count, lt))

pub tells_sent : {W : Type 0} (puts : W → List ℕ → W → Type 0) (core : Core) (names : Names) (connections : List Connection) (entries : List Said) (to : W) (same : Bool) (writer : W)
    → length connections ≡ client_count core → HaveTaken core entries connections → Tells puts core names (λ run. IsSentBy connections) to same writer
    → Tells puts core names (λ run. IsSent run entries) to same writer
tells_sent puts core names connections entries to same writer count have t = record {
  findings = t.findings;
  are = λ run agrees.
      found_of run (IsSentBy connections) (IsSent run entries) (client_count core) t.findings (is_sent core entries connections run count have agrees) (t.are run agrees);
  put = t.put;
  same_is = t.same_is;
}

-- what could not be read, but for want of memory, is bad
pub is_bad : {R : Type 0} (takes : R → List ℕ → R → Type 0) (at_end : R → Type 0) (fails : R → ℕ) (core : Core) (place : List ℕ → Option ℕ) (until : ℕ) (first reader : R) (fault : ReplayFault)
    → (fault ≡ Memory → ⊥) → ReadsSent takes at_end fails core place until first reader (Err fault) → IsBad takes at_end fails place until first reader fault
is_bad takes at_end fails core place until first reader (Line n fault) not_memory reads = reads
is_bad takes at_end fails core place until first reader Memory not_memory reads = absurd (not_memory refl)
is_bad takes at_end fails core place until first reader Reading not_memory reads = reads
is_bad takes at_end fails core place until first reader Writing not_memory reads = reads

pub of_bad : (result : Result Outcome ReplayFault) (fault : ReplayFault) → IfOk result (λ outcome. (outcome ≡ BadFile fault) × (fault ≢ Memory)) → (P : Outcome → Type 0)
    → ((fault ≡ Memory → ⊥) → P (BadFile fault)) → IfOk result P
of_bad (Ok outcome) fault is P bad = subst P (sym is.0) (bad is.1)
of_bad (Err e) fault is P bad = tt

-- what was told, by its outcome
pub compares_by : {W S : Type 0} (puts : W → List ℕ → W → Type 0) (sends : S → List ℕ → S → Type 0) (at_end : S → Type 0) (fails : S → ℕ) (until : ℕ) (played : Played) (sent sent_read : S) (to : W)
    (same : Bool) (writer : W) → Compares puts sends at_end until played sent sent_read to same writer
    → ComparesBy puts sends at_end fails until played sent sent_read to (if same then Good else Differs) writer
compares_by puts sends at_end fails until played sent sent_read to true writer compares = compares
compares_by puts sends at_end fails until played sent sent_read to false writer compares = compares
