-- A client without a connection: losing it changes nothing.
use Rattle.std.proofs.Common.{◌≡◌, ◌≢◌, ◌<◌, ℕ, zero, suc, Bool, true, false, List, ◌∷◌, refl, sym, ◌∙◌, ap, subst}
use Rattle.std.specs.List.{cons_option}
use Rattle.std.proofs.lemmas.Bool.{false≢true}
use Rattle.rs_octets.specs.Prefixes.{Prefix}
use Rattle.rs_session.specs.declared.act.State.TheVariants as states
use Rattle.rs_session.specs.declared.session.Session.{Session}
use Rattle.rs_session.specs.declared.settings.Settings.{Settings}
use Rattle.rs_session.specs.Items.{Item, Left, is_connected, message_count}
use Rattle.rs_session.specs.Endings.{Fate, GoesOn, Ends}
use Rattle.rs_session.specs.Sessions.{fate, is_live, state_by, state_of}
use Rattle.rs_session.specs.Hearing.{HasHeard, Stands}
use Rattle.rs_session.proofs.Phases.{idle_heard}
use Rattle.rs_policy.specs.Configuration.{Configuration}
use Rattle.rs_core.specs.Run.Moves as moves
use Rattle.rs_core.specs.Run.Moves.{Move, config_in}
use Rattle.rs_core.specs.Session.Hearing.{Hearing, is_up, leaves, session_in, state_in, table_in}
use Rattle.rs_core.specs.Run.Meaning.{hearing, table}
use Rattle.rs_core.specs.Session.OperatorRecords.{IsWatched, ended_if}
use Rattle.rs_core.specs.Run.Agreeing.{Agrees, AgreesAt, Knows}
use Rattle.rs_core.specs.Session.Conversations.{outgoing_of, own_open}
use Rattle.rs_core.specs.Core.{client_count, touched_for}
use Rattle.rs_core.specs.Ribs.{outlet_in}
use Rattle.rs_core.specs.Touched.ByRun.{IsChangedBy, TouchesOthersWhere}
use Rattle.rs_core.specs.declared.endings.Ending.{Ending}
use Rattle.rs_core.specs.declared.endings.Ending.TheVariants as reasons
use Rattle.rs_core.specs.declared.route_server.Core.{Core}
use Rattle.rs_core.proofs.Run.Agreeing.{grown}
use Rattle.rs_core.proofs.Session.Cutting.{over, same_spares}
use Rattle.rs_core.proofs.Touched.Growing.{left_agrees}
use Rattle.rs_core.proofs.Run.Holding.{down_identifier, down_table}
use Rattle.rs_core.proofs.Run.Lists.{own, other}
use Rattle.rs_core.proofs.Touched.Moments.{touches_nothing}
use Rattle.rs_core.proofs.Told.Ordering.{over_ordered}
use Rattle.rs_core.proofs.Session.Proceeding.{nothing_converses}
use Rattle.rs_core.proofs.Told.BySession.{down_speech, spoken_over}

-- ---- one client

unconnected_by : (b : Bool) (end : Fate) (count : ℕ) → state_by b end count ≡ states.Idle → b ≡ false
unconnected_by false end count e = refl
unconnected_by true (Ends said) count e = absurd (cc)
unconnected_by true GoesOn zero e = absurd (cc)
unconnected_by true GoesOn (suc zero) e = absurd (cc)
unconnected_by true GoesOn (suc (suc count)) e = absurd (cc)

unconnected : (settings : Settings) (items : List Item) → state_of settings items ≡ states.Idle → is_connected items ≡ false
unconnected settings items e = unconnected_by (is_connected items) (fate settings items) (message_count items) e

still_idle : (session : Session) (settings : Settings) (items : List Item) → state_of settings items ≡ states.Idle → HasHeard session settings items → HasHeard session settings (Left ∷ items)
unfolding HasHeard
still_idle session settings items idle h = record {
  settings_are = h.settings_are;
  latest = h.latest;
  phase = subst (λ p. Stands p settings (Left ∷ items)) (sym (idle_heard session settings items h idle)) refl;
}

left_knows : (core : Core) (s : Configuration) (c : ℕ) (h : Hearing) (why : Ending) → state_in s c h ≡ states.Idle → Knows core s c h → Knows core s c (leaves s c why h)
left_knows core s c h why idle knows = record {
  session = λ x e. still_idle x (session_in s c) h.items idle (knows.session x e);
  table = λ p. knows.table p ∙ down_table s c h down p;
  identifier = knows.identifier ∙ down_identifier s c h down;
  outlet = λ config none.
      let at = knows.outlet config none in
      spoken_over s c (leaves s c why h) (outlet_in core.ribs c none) refl refl (at.speech ∙ down_speech s c h down) at.order
      (record {
        messages = nothing_converses (session_in s c) (own_open s) (Left ∷ h.items) (outgoing_of (outlet_in core.ribs c none)) refl
            (at.talk.messages.alone (unconnected (session_in s c) h.items idle)).1;
        keepalives = λ live. absurd (false≢true live);
      });
  ordered = λ config none. over_ordered s c (leaves s c why h) (outlet_in core.ribs c none) refl ((knows.outlet config none).speech ∙ down_speech s c h down);
  watched = subst (λ b. IsWatched core.watched.items c (cons_option (ended_if b why) h.endings) h.faults) (sym (ap is_live idle)) knows.watched;
} where
  down : is_up (state_in s c h) ≡ false
  down = ap is_up idle

-- it agrees with the loss of a connection that there is not
left_at : (core : Core) (s : Configuration) (c : ℕ) (h : Hearing) (why : Ending) → state_in s c h ≡ states.Idle → AgreesAt core s c h → AgreesAt core s c (leaves s c why h)
left_at core s c h why idle at = record { knows = left_knows core s c h why idle at.knows; waits = λ x e. over s c x.items (leaves s c why h) refl }

-- ---- all of them

unchanged : (run : List Move) (c : ℕ) (p : Prefix) → state_in (config_in run) c (hearing c run) ≡ states.Idle → table (moves.Left c ∷ run) c p ≡ table run c p
unchanged run c p idle =
    let s = config_in run in
    let it = hearing c run in
    ap (λ k. table_in s c k p) (own c (leaves s c reasons.Lost it) it) ∙ sym (down_table s c it (ap is_up idle) p)

pub idle_touches : (core : Core) (run : List Move) (c : ℕ) → state_in (config_in run) c (hearing c run) ≡ states.Idle → TouchesOthersWhere (IsChangedBy (moves.Left c) run c) c run core core
idle_touches core run c idle = record {
  others = λ d lt ne up. touches_nothing (IsChangedBy (moves.Left c) run c) (touched_for core d) (touched_for core d) refl (λ p differs. differs (unchanged run c p idle));
}

pub idle_left : (core : Core) (run : List Move) (c : ℕ) → c < client_count core → state_in (config_in run) c (hearing c run) ≡ states.Idle → Agrees core run → Agrees core (moves.Left c ∷ run)
unfolding client_count
idle_left core run c lt idle h =
    let s = config_in run in
    let it = hearing c run in
    let others = λ (d : ℕ) (ne : d ≢ c). other c d (leaves s d reasons.Lost (hearing d run)) (hearing d run) ne in
    let on = grown core core c run (moves.Left c ∷ run) refl others h (same_spares core c)
    (subst (λ k. AgreesAt core s c k) (sym (own c (leaves s c reasons.Lost it) it)) (left_at core s c it reasons.Lost idle (h.clients c lt))) in
    left_agrees c core core run refl others (ap (λ k. is_up (state_in s c k)) (own c (leaves s c reasons.Lost it) it)) (idle_touches core run c idle) (λ d none lt. refl) h on
