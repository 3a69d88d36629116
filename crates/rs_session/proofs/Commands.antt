-- One command more.
use Rattle.std.proofs.Common.{◌≡◌, ℕ, zero, suc, Bool, true, false, List, ◌∷◌, refl, sym, ap, subst, ◌∙◌, if◌then◌else◌}
use Rattle.rs_session.specs.declared.act.State.TheVariants as states
use Rattle.rs_session.specs.declared.act.Act.{Act}
use Rattle.rs_session.specs.declared.act.Act.TheVariants as acts
use Rattle.rs_session.specs.declared.command.Command.{Command}
use Rattle.rs_session.specs.declared.settings.Settings.{Settings}
use Rattle.rs_session.specs.declared.session.Session.{Session}
use Rattle.rs_session.specs.declared.phase.Phase.{Phase}
use Rattle.rs_session.specs.declared.phase.Phase.TheVariants as phases
use Rattle.rs_session.specs.declared.phase.Peer.{Peer}
use Rattle.rs_session.specs.Items.{Item, Commanded, message_count}
use Rattle.rs_session.specs.Endings.{Fate, GoesOn, Ends, command_fate}
use Rattle.rs_session.specs.Sessions.{fate, state_of, is_live, command_act, act_of}
use Rattle.rs_session.specs.Hearing.{IsWaiting, IsCount, HasAgreed, Stands, HasHeard, Stays, Tells, RespondsTo}
use Rattle.rs_session.specs.Steps.{step, obey, command_step}
use Rattle.rs_session.proofs.Phases.{state_in, state_is}
use Rattle.rs_session.proofs.Standing.{earlier_goes, earlier_ended, live_act, still_act, stands_by, same, down, state_confirmed, live_confirmed}

-- ---- the phase

waiting_stands : (s : Settings) (items : List Item) (since : ℕ) (command : Command) → IsWaiting s items since
    → fate s (Commanded command ∷ items) ≡ GoesOn → IsWaiting s (Commanded command ∷ items) since
waiting_stands s items since command w e =
    record { connected = w.connected; lasts = e; count = w.count; sent = w.sent; hold_timer = w.hold_timer }

agreed_stands : (s : Settings) (items : List Item) (peer : Peer) (command : Command) → HasAgreed s items peer
    → fate s (Commanded command ∷ items) ≡ GoesOn → HasAgreed s (Commanded command ∷ items) peer
agreed_stands s items peer command w e =
    record { connected = w.connected; lasts = e; count = w.count; sent = w.sent; hold_timer = w.hold_timer; keepalive_timer = w.keepalive_timer }

command_stands : (phase : Phase) (s : Settings) (items : List Item) (command : Command) → Stands phase s items
    → Stands (command_step phase command).0 s (Commanded command ∷ items)
command_stands phases.Idle s items command h = h
command_stands (phases.OpenSent since) s items command h =
    stands_by (command_fate command) (phases.OpenSent since) _ s (Commanded command ∷ items) h.connected (earlier_goes _ _ h.lasts)
    (λ f. waiting_stands s items since command h (earlier_goes _ _ h.lasts ∙ f))
command_stands (phases.Agreed peer) s items command h =
    stands_by (command_fate command) (phases.Agreed peer) _ s (Commanded command ∷ items) h.connected (earlier_goes _ _ h.lasts)
    (λ f. agreed_stands s items peer command h (earlier_goes _ _ h.lasts ∙ f))
command_stands phases.Closing s items command h = record { connected = h.connected; note = h.note; ends = earlier_ended _ _ _ h.ends }

-- ---- its answer

-- Established, or not yet
abbrev IsReached : Bool → ℕ → Type 0
IsReached established count = (f : Fate) → command_act f count ≡ (step f phases.Closing (if established then acts.Again else acts.None)).1

waiting_count : (k : ℕ) → k ≡ 0 → IsReached false k
waiting_count zero e (Ends said) = refl
waiting_count zero e GoesOn = refl
waiting_count (suc k) e f = cc

agreed_count : (b : Bool) (k : ℕ) → IsCount b k → IsReached b k
agreed_count false k h (Ends said) = refl
agreed_count false k h GoesOn = ap (command_act GoesOn) h
agreed_count true k h (Ends said) = refl
agreed_count true k h GoesOn = ap (command_act GoesOn) h.1

same_act : (f : Fate) (p q : Phase) (act : Act) → (step f p act).1 ≡ (step f q act).1
same_act (Ends said) p q act = refl
same_act GoesOn p q act = refl

act_by : (s : Settings) (items : List Item) (command : Command) (phase : Phase) (established : Bool)
    → is_live (state_of s items) ≡ true → IsReached established (message_count items)
    → (obey phase established command).1 ≡ act_of s (Commanded command) items
act_by s items command phase established live reached =
    same_act (command_fate command) phase phases.Closing _ ∙ sym (reached (command_fate command))
    ∙ sym (live_act (state_of s items) _ acts.None live)

command_acts : (phase : Phase) (s : Settings) (items : List Item) (command : Command) → Stands phase s items
    → (command_step phase command).1 ≡ act_of s (Commanded command) items
command_acts phases.Idle s items command h =
    sym (still_act (state_of s items) _ acts.None (ap is_live (state_is phases.Idle s items h)))
command_acts (phases.OpenSent since) s items command h =
    act_by s items command (phases.OpenSent since) false (ap is_live (state_is (phases.OpenSent since) s items h))
    (waiting_count (message_count items) h.count)
command_acts (phases.Agreed peer) s items command h =
    act_by s items command (phases.Agreed peer) peer.confirmed
    (ap is_live (state_is (phases.Agreed peer) s items h) ∙ live_confirmed peer.confirmed)
    (agreed_count peer.confirmed (message_count items) h.count)
command_acts phases.Closing s items command h =
    sym (still_act (state_of s items) _ acts.None (ap is_live (state_is phases.Closing s items h)))

-- ---- what it tells

waiting_tells : (s : Settings) (items : List Item) (since : ℕ) (command : Command) → IsWaiting s items since
    → (f : Fate) → fate s (Commanded command ∷ items) ≡ f
    → Tells (step f (phases.OpenSent since) acts.None).1 s items (Commanded command ∷ items)
waiting_tells s items since command w (Ends said) e =
    down (phases.OpenSent since) s items (Commanded command) said w refl w.connected e
waiting_tells s items since command w GoesOn e =
    same (phases.OpenSent since) (phases.OpenSent since) s items (Commanded command) w
    (waiting_stands s items since command w e) refl refl

again_tells : (b : Bool) (s : Settings) (old new : List Item)
    → state_of s old ≡ (if b then states.Established else states.OpenConfirm) → Stays s old new
    → Tells (if b then acts.Again else acts.None) s old new
again_tells false s old new e h = h
again_tells true s old new e h = record { before = e; same = h }

agreed_tells : (s : Settings) (items : List Item) (peer : Peer) (command : Command) → HasAgreed s items peer
    → (f : Fate) → fate s (Commanded command ∷ items) ≡ f
    → Tells (step f (phases.Agreed peer) (if peer.confirmed then acts.Again else acts.None)).1 s items (Commanded command ∷ items)
agreed_tells s items peer command w (Ends said) e =
    down (phases.Agreed peer) s items (Commanded command) said w (live_confirmed peer.confirmed) w.connected e
agreed_tells s items peer command w GoesOn e =
    again_tells peer.confirmed s items (Commanded command ∷ items) (state_confirmed s items peer peer.confirmed refl w)
    (same (phases.Agreed peer) (phases.Agreed peer) s items (Commanded command) w (agreed_stands s items peer command w e) refl refl)

command_tells : (phase : Phase) (s : Settings) (items : List Item) (command : Command) → Stands phase s items
    → Tells (command_step phase command).1 s items (Commanded command ∷ items)
command_tells phases.Idle s items command h = same phases.Idle phases.Idle s items (Commanded command) h h refl refl
command_tells (phases.OpenSent since) s items command h =
    waiting_tells s items since command h (command_fate command) (earlier_goes _ _ h.lasts)
command_tells (phases.Agreed peer) s items command h =
    agreed_tells s items peer command h (command_fate command) (earlier_goes _ _ h.lasts)
command_tells phases.Closing s items command h =
    same phases.Closing phases.Closing s items (Commanded command) h (command_stands phases.Closing s items command h) refl refl

pub command_hears : (old new : Session) (command : Command) (act : Act)
    → ◌≡◌ {A = Phase × Act} (new.phase, act) (command_step old.phase command)
    → new.latest ≡ old.latest → new.settings ≡ old.settings → RespondsTo old new (Commanded command) act
unfolding HasHeard
command_hears old new command act e l t s items h = record {
  heard = record {
    settings_are = t ∙ h.settings_are;
    latest = l ∙ h.latest;
    phase = subst (λ (x : Phase × Act). Stands x.0 s (Commanded command ∷ items)) (sym e)
        (command_stands old.phase s items command h.phase);
  };
  act_is = ap (λ (x : Phase × Act). x.1) e ∙ command_acts old.phase s items command h.phase;
  tells = subst (λ (x : Phase × Act). Tells x.1 s items (Commanded command ∷ items)) (sym e)
      (command_tells old.phase s items command h.phase);
}

-- ---- without a session that lasts

still_phase : (phase : Phase) (command : Command) → is_live (state_in phase) ≡ false
    → (command_step phase command).0 ≡ phase
still_phase phases.Idle command e = refl
still_phase (phases.OpenSent since) command e = cc
still_phase (phases.Agreed peer) command e =
    absurd (let f : true ≡ false = sym (live_confirmed peer.confirmed) ∙ e in cc)
still_phase phases.Closing command e = refl

pub over_commanded : (old new : Session) (command : Command) (act : Act)
    → ◌≡◌ {A = Phase × Act} (new.phase, act) (command_step old.phase command)
    → new.latest ≡ old.latest → new.settings ≡ old.settings → (s : Settings) (items : List Item)
    → HasHeard old s items → is_live (state_of s items) ≡ false → new ≡ old
unfolding HasHeard
over_commanded old new command act e l t s items h v =
    let p : new.phase ≡ old.phase =
    ap (λ (x : Phase × Act). x.0) e
    ∙ still_phase old.phase command (ap is_live (sym (state_is old.phase s items h.phase)) ∙ v) in
    λ i. record { settings = t i; latest = l i; phase = p i }
