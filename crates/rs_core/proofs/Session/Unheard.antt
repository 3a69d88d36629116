-- A session that does not last: a command changes nothing of it.
use Rattle.std.proofs.Common.{◌≡◌, ◌≢◌, ◌<◌, ℕ, zero, suc, false, List, [], ◌∷◌, length, refl, sym, ◌∙◌, ap, subst, arith}
use Rattle.std.specs.Prelude.{Some, slice_get}
use Rattle.std.proofs.lemmas.Bool.{false≢true}
use Rattle.rs_session.specs.declared.act.Act.{Act}
use Rattle.rs_session.specs.declared.act.Act.TheVariants as acts
use Rattle.rs_session.specs.declared.command.Command.{Command}
use Rattle.rs_session.specs.declared.phase.Phase.{Phase}
use Rattle.rs_session.specs.declared.phase.Phase.TheVariants as phases
use Rattle.rs_session.specs.declared.session.Session.{Session}
use Rattle.rs_session.specs.declared.settings.Settings.{Settings}
use Rattle.rs_session.specs.Items as items
use Rattle.rs_session.specs.Items.{Item}
use Rattle.rs_session.specs.Sessions.{state_of, is_live}
use Rattle.rs_session.specs.Hearing.{HasHeard, RespondsTo}
use Rattle.rs_session.specs.Steps.{command_step}
use Rattle.rs_session.proofs.Commands.{command_hears}
use Rattle.rs_session.proofs.Phases as by_phase
use Rattle.rs_session.proofs.Standing.{live_confirmed}
use Rattle.rs_policy.specs.Configuration.{Configuration}
use Rattle.rs_core.specs.Run.Moves.{Move, Commanded, config_in}
use Rattle.rs_core.specs.Session.Hearing.{Hearing, commanded, state_in}
use Rattle.rs_core.specs.Run.Meaning.{hearing}
use Rattle.rs_core.specs.Run.Agreeing.{Agrees, AgreesAt}
use Rattle.rs_core.specs.Core.{client_count}
use Rattle.rs_core.specs.Ribs.{outlet_in}
use Rattle.rs_core.specs.Touched.ByRun.{IsChangedBy, TouchesItself, TouchesOthersWhere}
use Rattle.rs_core.specs.declared.route_server.Core.{Core}
use Rattle.rs_core.proofs.Run.Acting.{obeyed}
use Rattle.rs_core.proofs.Run.Agreeing.{AgreesOnClients, grown, on_clients}
use Rattle.rs_core.proofs.Run.Lists.{own, other, set_same}
use Rattle.rs_core.proofs.Session.Cutting.{same_spares}
use Rattle.rs_core.proofs.Touched.Calls.{touches_changes, touches_itself}
use Rattle.rs_core.proofs.Touched.ChangedPrefixes.{touches_others_same}
use Rattle.rs_core.proofs.Touched.Growing.{commanded_agrees}
use Rattle.rs_core.proofs.Touched.OwnSession.{keeps_same}

-- ---- one client

over_step : (phase : Phase) (command : Command) → is_live (by_phase.state_in phase) ≡ false → ◌≡◌ {A = Phase × Act} (phase, acts.None) (command_step phase command)
over_step phases.Idle command e = refl
over_step (phases.OpenSent since) command e = cc
over_step (phases.Agreed peer) command e = absurd (false≢true (sym e ∙ live_confirmed peer.confirmed))
over_step phases.Closing command e = refl

answers_nothing : (x : Session) (settings : Settings) (befell : List Item) (command : Command) → is_live (state_of settings befell) ≡ false → HasHeard x settings befell → RespondsTo x x (items.Commanded command) acts.None
unfolding HasHeard
answers_nothing x settings befell command dead h =
    command_hears x x command acts.None (over_step x.phase command (ap is_live (sym (by_phase.state_is x.phase settings befell h.phase)) ∙ dead)) refl refl

there_is : {X : Type 0} (xs : List X) (i : ℕ) → i < length xs → (x : X) × (slice_get xs i ≡ Some x)
there_is [] i lt = absurd (omega arith)
there_is (x ∷ xs) zero lt = (x, refl)
there_is (x ∷ xs) (suc i) lt = there_is xs i (omega arith)

over_at : (core : Core) (s : Configuration) (c : ℕ) (command : Command) (h : Hearing) → c < length core.sessions.items → is_live (state_in s c h) ≡ false → AgreesAt core s c h → AgreesAt core s c (commanded s c command h)
over_at core s c command h lt dead at =
    let there = there_is core.sessions.items c lt in
    let x = there.0 in
    let read = there.1 in
    obeyed core core acts.None x x s c command h (record {
      read = read;
      here = lt;
      sessions = sym (set_same core.sessions.items c x read);
      buffers = refl;
      config = refl;
      responds = answers_nothing x _ h.items command dead (at.knows.session x read);
      tables = refl;
      own = λ none. refl;
      notes = record { own = λ endings faults was. was; others = λ d ne. refl };
    }) at

-- ---- all of them

on_over : (core : Core) (run : List Move) (c : ℕ) (command : Command) → c < client_count core → is_live (state_in (config_in run) c (hearing c run)) ≡ false
    → Agrees core run → AgreesOnClients core (Commanded c command ∷ run)
unfolding client_count
on_over core run c command lt dead h =
    let s = config_in run in
    let it = hearing c run in
    grown core core c run (Commanded c command ∷ run) refl (λ (d : ℕ) (ne : d ≢ c). other c d (commanded s d command (hearing d run)) (hearing d run) ne) h (same_spares core c)
    (subst (λ k. AgreesAt core s c k) (sym (own c (commanded s c command it) it)) (over_at core s c command it (subst (λ k. c < k) (sym core.sessions_len) lt) dead (h.clients c lt)))

pub over_touches : (core : Core) (run : List Move) (c : ℕ) (command : Command) → c < client_count core → is_live (state_in (config_in run) c (hearing c run)) ≡ false
    → Agrees core run → TouchesOthersWhere (IsChangedBy (Commanded c command) run c) c run core core
unfolding client_count
over_touches core run c command lt dead h =
    touches_changes c (Commanded c command) core core run lt (on_clients core run h) (on_over core run c command lt dead h) refl (touches_others_same c core.ribs core.ribs refl)

over_itself : (core : Core) (run : List Move) (c : ℕ) (command : Command) → c < client_count core → is_live (state_in (config_in run) c (hearing c run)) ≡ false
    → Agrees core run → TouchesItself (Commanded c command) c run core core
unfolding client_count
over_itself core run c command lt dead h =
    touches_itself (Commanded c command) c core core run lt (on_clients core run h) (on_over core run c command lt dead h) refl (λ none. keeps_same (outlet_in core.ribs c none) (outlet_in core.ribs c none) refl refl)

pub over_agrees : (core : Core) (run : List Move) (c : ℕ) (command : Command) → c < client_count core → is_live (state_in (config_in run) c (hearing c run)) ≡ false
    → Agrees core run → Agrees core (Commanded c command ∷ run)
unfolding client_count
over_agrees core run c command lt dead h =
    commanded_agrees c command core core run refl (λ (d : ℕ) (ne : d ≢ c). other c d (commanded (config_in run) d command (hearing d run)) (hearing d run) ne)
    (over_touches core run c command lt dead h) (over_itself core run c command lt dead h) (λ d none lt. refl) h (on_over core run c command lt dead h)
