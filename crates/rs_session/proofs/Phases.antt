-- What each phase says of the items.
use Rattle.std.proofs.Common.{◌≡◌, ℕ, Bool, true, false, List, Option, Some, None, refl, sym, ap, ◌∙◌, if◌then◌else◌}
use Rattle.rs_open.specs.declared.open.Open.{Open}
use Rattle.rs_session.specs.declared.act.State.{State}
use Rattle.rs_session.specs.declared.act.State.TheVariants as states
use Rattle.rs_session.specs.declared.settings.Settings.{Settings}
use Rattle.rs_session.specs.declared.session.Session.{Session}
use Rattle.rs_session.specs.declared.phase.Phase.{Phase}
use Rattle.rs_session.specs.declared.phase.Phase.TheVariants as phases
use Rattle.rs_session.specs.Items.{Item, is_connected, message_count, open_heard}
use Rattle.rs_session.specs.Endings.{Fate, GoesOn, Ends}
use Rattle.rs_session.specs.Sessions.{fate, state_by, state_of, agreed_by, agreed_of}
use Rattle.rs_session.specs.Hearing.{configured, IsCount, Stands, HasHeard}
use Rattle.rs_session.specs.Laws.{HearsAsConfigured}

abbrev pub state_in : Phase → State
state_in phases.Idle = states.Idle
state_in (phases.OpenSent since) = states.OpenSent
state_in (phases.Agreed peer) = if peer.confirmed then states.Established else states.OpenConfirm
state_in phases.Closing = states.Closing

abbrev pub sent_in : Phase → Option Open
sent_in phases.Idle = None
sent_in (phases.OpenSent since) = None
sent_in (phases.Agreed peer) = Some peer.sent
sent_in phases.Closing = None

pub state_at : (c d : Bool) (f g : Fate) (k l : ℕ) → c ≡ d → f ≡ g → k ≡ l → state_by c f k ≡ state_by d g l
state_at c d f g k l p q r = cc

confirmed_state : (b : Bool) (k : ℕ) → IsCount b k
    → state_by true GoesOn k ≡ (if b then states.Established else states.OpenConfirm)
confirmed_state false k h = ap (λ n. state_by true GoesOn n) h
confirmed_state true k h = ap (λ n. state_by true GoesOn n) h.1

-- the state is the phase's
pub state_is : (phase : Phase) (s : Settings) (items : List Item) → Stands phase s items
    → state_of s items ≡ state_in phase
state_is phases.Idle s items h = ap (λ c. state_by c (fate s items) (message_count items)) h
state_is (phases.OpenSent since) s items h = state_at _ true _ GoesOn _ 0 h.connected h.lasts h.count
state_is (phases.Agreed peer) s items h =
    state_at (is_connected items) true (fate s items) GoesOn (message_count items) (message_count items)
    h.connected h.lasts refl
    ∙ confirmed_state peer.confirmed (message_count items) h.count
state_is phases.Closing s items h =
    state_at _ true _ (Ends h.note) _ (message_count items) h.connected h.ends refl

agreed_confirmed : (b : Bool) (sent : Option Open)
    → agreed_by (if b then states.Established else states.OpenConfirm) sent ≡ sent
agreed_confirmed false sent = refl
agreed_confirmed true sent = refl

-- and so is the OPEN
pub agreed_is : (phase : Phase) (s : Settings) (items : List Item) → Stands phase s items
    → agreed_of s items ≡ sent_in phase
agreed_is phases.Idle s items h = ap (λ x. agreed_by x (open_heard items)) (state_is phases.Idle s items h)
agreed_is (phases.OpenSent since) s items h =
    ap (λ x. agreed_by x (open_heard items)) (state_is (phases.OpenSent since) s items h)
agreed_is (phases.Agreed peer) s items h =
    ap (λ x. agreed_by x (open_heard items)) (state_is (phases.Agreed peer) s items h)
    ∙ agreed_confirmed peer.confirmed (open_heard items) ∙ h.sent
agreed_is phases.Closing s items h =
    ap (λ x. agreed_by x (open_heard items)) (state_is phases.Closing s items h)

pub state_heard : (session : Session) (s : Settings) (items : List Item) → HasHeard session s items
    → state_of s items ≡ state_in session.phase
unfolding HasHeard
state_heard session s items h = state_is session.phase s items h.phase

pub agreed_heard : (session : Session) (s : Settings) (items : List Item) → HasHeard session s items
    → agreed_of s items ≡ sent_in session.phase
unfolding HasHeard
agreed_heard session s items h = agreed_is session.phase s items h.phase

pub settings_heard : (session : Session) (s : Settings) (items : List Item) → HasHeard session s items
    → session.settings ≡ s
unfolding HasHeard
settings_heard session s items h = h.settings_are

pub hears_as_configured : HearsAsConfigured
unfolding HasHeard configured
hears_as_configured session s items h = h.settings_are

confirmed_not_idle : (b : Bool) → (if b then states.Established else states.OpenConfirm) ≡ states.Idle → ⊥
confirmed_not_idle false e = cc
confirmed_not_idle true e = cc

idle_phase : (phase : Phase) → state_in phase ≡ states.Idle → phase ≡ phases.Idle
idle_phase phases.Idle e = refl
idle_phase (phases.OpenSent since) e = cc
idle_phase (phases.Agreed peer) e = absurd (confirmed_not_idle peer.confirmed e)
idle_phase phases.Closing e = cc

pub idle_heard : (session : Session) (s : Settings) (items : List Item) → HasHeard session s items
    → state_of s items ≡ states.Idle → session.phase ≡ phases.Idle
idle_heard session s items h e = idle_phase session.phase (sym (state_heard session s items h) ∙ e)

established_sent : (phase : Phase) → state_in phase ≡ states.Established → sent_in phase ≡ None → ⊥
established_sent phases.Idle e f = cc
established_sent (phases.OpenSent since) e f = cc
established_sent (phases.Agreed peer) e f = cc
established_sent phases.Closing e f = cc

pub established_heard : (session : Session) (s : Settings) (items : List Item) → HasHeard session s items
    → state_of s items ≡ states.Established → agreed_of s items ≡ None → ⊥
established_heard session s items h e f =
    established_sent session.phase (sym (state_heard session s items h) ∙ e)
    (sym (agreed_heard session s items h) ∙ f)
