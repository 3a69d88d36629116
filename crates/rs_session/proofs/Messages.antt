-- One message more, and a connection.
use Rattle.std.proofs.Common.{◌≡◌, ℕ, zero, suc, Bool, true, false, List, ◌∷◌, Some, Ok, Err, refl, sym, ap, subst, ◌∙◌, if◌then◌else◌, inl}
use Rattle.rs_open.specs.declared.open.Open.{Open}
use Rattle.rs_open.specs.declared.short.Short.TheVariants as short
use Rattle.rs_session.specs.declared.heard.Heard.{Heard}
use Rattle.rs_session.specs.declared.heard.Heard.TheVariants as heard
use Rattle.rs_session.specs.declared.act.State.{State}
use Rattle.rs_session.specs.declared.act.State.TheVariants as states
use Rattle.rs_session.specs.declared.act.Act.{Act}
use Rattle.rs_session.specs.declared.act.Act.TheVariants as acts
use Rattle.rs_session.specs.declared.settings.Settings.{Settings}
use Rattle.rs_session.specs.declared.session.Session.{Session}
use Rattle.rs_session.specs.declared.phase.Phase.{Phase}
use Rattle.rs_session.specs.declared.phase.Phase.TheVariants as phases
use Rattle.rs_session.specs.declared.phase.Peer.{Peer}
use Rattle.rs_session.specs.Items.{Item, Came, Message, greatest, message_count, restarts_hold_timer, hold_timer_since, open_in, open_heard}
use Rattle.rs_session.specs.Endings.{Fate, GoesOn, Ends, first_fate, second_fate, later_fate, message_fate}
use Rattle.rs_session.specs.Sessions.{fate, state_of, is_live, keepalive_timer_since, is_request, message_act, act_of}
use Rattle.rs_session.specs.Hearing.{IsWaiting, IsCount, HasAgreed, Stands, HasHeard, Stays, Tells, RespondsTo}
use Rattle.rs_session.specs.Steps.{step, phase_from, first_step, second_step, later_step, message_step}
use Rattle.rs_session.proofs.Phases.{state_in, state_at, state_is, agreed_is}
use Rattle.rs_session.proofs.Standing.{earlier_goes, earlier_ended, live_act, still_act, stands_by, same, down, state_confirmed, live_confirmed}

-- ---- the first message

first_fate_is : (s : Settings) (items : List Item) (since : ℕ) (m : Heard) → IsWaiting s items since
    → fate s (Message m ∷ items) ≡ first_fate s.peer_as m
first_fate_is s items since m w =
    earlier_goes _ _ w.lasts ∙ ap (λ (k : ℕ). message_fate s.peer_as k m) w.count

opened_stands : (s : Settings) (items : List Item) (since : ℕ) (sent : Open) → IsWaiting s items since
    → fate s (Message (heard.Open (Ok sent)) ∷ items) ≡ GoesOn
    → Stands (phase_from (greatest items) (heard.Open (Ok sent))) s (Message (heard.Open (Ok sent)) ∷ items)
opened_stands s items since sent w e = record {
  connected = w.connected;
  lasts = e;
  count = ap suc w.count;
  sent = ap (λ (k : ℕ). elim k [ zero ↦ Some sent | suc count ↦ open_heard items ]) w.count;
  hold_timer = refl;
  keepalive_timer = ap (λ (k : ℕ). elim k [ zero ↦ greatest items | suc count ↦ keepalive_timer_since s items ]) w.count;
}

from_stands : (s : Settings) (items : List Item) (since : ℕ) (m : Heard) → IsWaiting s items since
    → first_fate s.peer_as m ≡ GoesOn → Stands (phase_from (greatest items) m) s (Message m ∷ items)
from_stands s items since (heard.Open (Ok sent)) w e =
    opened_stands s items since sent w (first_fate_is s items since (heard.Open (Ok sent)) w ∙ e)
from_stands s items since (heard.Open (Err fault)) w e = cc
from_stands s items since (heard.Update reset) w e = cc
from_stands s items since (heard.Refresh afi safi) w e = cc
from_stands s items since heard.Note w e = cc
from_stands s items since heard.Keepalive w e = cc
from_stands s items since (heard.Header fault) w e = cc

first_stands : (s : Settings) (items : List Item) (since : ℕ) (m : Heard) → IsWaiting s items since
    → Stands (first_step s.peer_as (greatest items) m).0 s (Message m ∷ items)
first_stands s items since m w =
    stands_by (first_fate s.peer_as m) (phase_from (greatest items) m) (acts.Say short.Keepalive) s
    (Message m ∷ items) w.connected (first_fate_is s items since m w) (from_stands s items since m w)

-- ---- the second

second_fate_is : (s : Settings) (items : List Item) (peer : Peer) (m : Heard) → HasAgreed s items peer
    → message_count items ≡ 1 → fate s (Message m ∷ items) ≡ second_fate m
second_fate_is s items peer m w k = earlier_goes _ _ w.lasts ∙ ap (λ (k : ℕ). message_fate s.peer_as k m) k

second_goes : (m : Heard) → second_fate m ≡ GoesOn → restarts_hold_timer m ≡ true
second_goes (heard.Open read) e = refl
second_goes (heard.Update reset) e = refl
second_goes (heard.Refresh afi safi) e = cc
second_goes heard.Note e = cc
second_goes heard.Keepalive e = refl
second_goes (heard.Header fault) e = cc

second_stands : (s : Settings) (items : List Item) (peer : Peer) (m : Heard) → HasAgreed s items peer
    → message_count items ≡ 1 → Stands (second_step peer (greatest items) m).0 s (Message m ∷ items)
second_stands s items peer m w k =
    stands_by (second_fate m) _ acts.Up s (Message m ∷ items) w.connected (second_fate_is s items peer m w k)
    (λ e. record {
      connected = w.connected;
      lasts = second_fate_is s items peer m w k ∙ e;
      count = (0, ap suc k);
      sent = ap (λ (k : ℕ). elim k [ zero ↦ open_in m | suc count ↦ open_heard items ]) k ∙ w.sent;
      hold_timer = ap (λ b. if b then greatest items else hold_timer_since items) (second_goes m e);
      keepalive_timer = ap (λ (k : ℕ). elim k [ zero ↦ greatest items | suc count ↦ keepalive_timer_since s items ]) k ∙ w.keepalive_timer;
    })

-- ---- a later one

later_fate_is : (s : Settings) (items : List Item) (peer : Peer) (m : Heard) (more : ℕ)
    → HasAgreed s items peer → message_count items ≡ suc (suc more)
    → fate s (Message m ∷ items) ≡ later_fate m
later_fate_is s items peer m more w k =
    earlier_goes _ _ w.lasts ∙ ap (λ (k : ℕ). message_fate s.peer_as k m) k

later_stands : (s : Settings) (items : List Item) (peer : Peer) (m : Heard) (more : ℕ)
    → HasAgreed s items peer → peer.confirmed ≡ true → message_count items ≡ suc (suc more)
    → Stands (later_step peer (greatest items) m).0 s (Message m ∷ items)
later_stands s items peer m more w e k =
    stands_by (later_fate m) _ (if is_request m then acts.Again else acts.None) s (Message m ∷ items)
    w.connected (later_fate_is s items peer m more w k)
    (λ f. record {
      connected = w.connected;
      lasts = later_fate_is s items peer m more w k ∙ f;
      count = subst (λ b. IsCount b (suc (message_count items))) (sym e) (suc more, ap suc k);
      sent = ap (λ (k : ℕ). elim k [ zero ↦ open_in m | suc count ↦ open_heard items ]) k ∙ w.sent;
      hold_timer = ap (λ t. if restarts_hold_timer m then greatest items else t) w.hold_timer;
      keepalive_timer = ap (λ (k : ℕ). elim k [ zero ↦ greatest items | suc count ↦ keepalive_timer_since s items ]) k ∙ w.keepalive_timer;
    })

agreed_stands : (b : Bool) (s : Settings) (items : List Item) (peer : Peer) (m : Heard) → peer.confirmed ≡ b
    → HasAgreed s items peer → IsCount b (message_count items)
    → Stands (if b then later_step peer (greatest items) m else second_step peer (greatest items) m).0 s
    (Message m ∷ items)
agreed_stands false s items peer m e w k = second_stands s items peer m w k
agreed_stands true s items peer m e w k = later_stands s items peer m k.0 w e k.1

-- the phase after a message
message_stands : (phase : Phase) (s : Settings) (items : List Item) (m : Heard) → Stands phase s items
    → Stands (message_step phase s.peer_as (greatest items) m).0 s (Message m ∷ items)
message_stands phases.Idle s items m h = h
message_stands (phases.OpenSent since) s items m h = first_stands s items since m h
message_stands (phases.Agreed peer) s items m h = agreed_stands peer.confirmed s items peer m refl h h.count
message_stands phases.Closing s items m h = record { connected = h.connected; note = h.note; ends = earlier_ended _ _ _ h.ends }

-- ---- its answer

step_act : (f : Fate) (phase : Phase) (k : ℕ) (m : Heard)
    → (step f phase (message_act GoesOn k m)).1 ≡ message_act f k m
step_act (Ends said) phase k m = refl
step_act GoesOn phase k m = refl

-- the answer by the state, the count and the fate of the message
act_at : (s : Settings) (items : List Item) (m : Heard) (st : State) (k : ℕ) → state_of s items ≡ st
    → is_live st ≡ true → message_count items ≡ k
    → act_of s (Message m) items ≡ message_act (message_fate s.peer_as k m) k m
act_at s items m st k e l c =
    live_act (state_of s items) _ acts.None (ap is_live e ∙ l) ∙ ap
    (λ n. message_act (message_fate s.peer_as n m) n m) c

agreed_act : (b : Bool) (s : Settings) (items : List Item) (peer : Peer) (m : Heard)
    → state_of s items ≡ (if b then states.Established else states.OpenConfirm)
    → IsCount b (message_count items)
    → (if b then later_step peer (greatest items) m else second_step peer (greatest items) m).1 ≡ act_of s
    (Message m) items
agreed_act false s items peer m e k =
    step_act (second_fate m) _ 1 m ∙ sym (act_at s items m states.OpenConfirm 1 e refl k)
agreed_act true s items peer m e k =
    step_act (later_fate m) _ (suc (suc k.0)) m
    ∙ sym (act_at s items m states.Established (suc (suc k.0)) e refl k.1)

message_acts : (phase : Phase) (s : Settings) (items : List Item) (m : Heard) → Stands phase s items
    → (message_step phase s.peer_as (greatest items) m).1 ≡ act_of s (Message m) items
message_acts phases.Idle s items m h =
    sym (still_act (state_of s items) _ acts.None (ap is_live (state_is phases.Idle s items h)))
message_acts (phases.OpenSent since) s items m h =
    step_act (first_fate s.peer_as m) _ 0 m
    ∙ sym (act_at s items m states.OpenSent 0 (state_is (phases.OpenSent since) s items h) refl h.count)
message_acts (phases.Agreed peer) s items m h =
    agreed_act peer.confirmed s items peer m (state_is (phases.Agreed peer) s items h) h.count
message_acts phases.Closing s items m h =
    sym (still_act (state_of s items) _ acts.None (ap is_live (state_is phases.Closing s items h)))

-- ---- what it tells

first_tells : (s : Settings) (items : List Item) (since : ℕ) (m : Heard) → IsWaiting s items since
    → (f : Fate) → first_fate s.peer_as m ≡ f
    → Tells (step f (phase_from (greatest items) m) (acts.Say short.Keepalive)).1 s items (Message m ∷ items)
first_tells s items since m w (Ends said) e =
    down (phases.OpenSent since) s items (Message m) said w refl w.connected (first_fate_is s items since m w ∙ e)
first_tells s items since m w GoesOn e = inl (record {
  before = state_is (phases.OpenSent since) s items w;
  now = state_at _ true _ GoesOn _ 1 w.connected (first_fate_is s items since m w ∙ e) (ap suc w.count);
})

second_tells : (s : Settings) (items : List Item) (peer : Peer) (m : Heard) → peer.confirmed ≡ false
    → HasAgreed s items peer → message_count items ≡ 1 → (f : Fate) → second_fate m ≡ f
    → Tells (step f (phases.Agreed (record peer { confirmed = true; hold_timer_since = greatest items })) acts.Up).1
    s items (Message m ∷ items)
second_tells s items peer m b w k (Ends said) e =
    down (phases.Agreed peer) s items (Message m) said w (live_confirmed peer.confirmed) w.connected
    (second_fate_is s items peer m w k ∙ e)
second_tells s items peer m b w k GoesOn e = record {
  before = state_confirmed s items peer false b w;
  now = state_at _ true _ GoesOn _ 2 w.connected (second_fate_is s items peer m w k ∙ e) (ap suc k);
  sent = peer.sent;
  agreed = agreed_is (phases.Agreed (record peer { confirmed = true; hold_timer_since = greatest items })) s
      (Message m ∷ items)
      (subst (λ f. Stands (step f (phases.Agreed (record peer { confirmed = true; hold_timer_since = greatest items })) acts.Up).0 s (Message m ∷ items)) e (second_stands s items peer m w k));
}

request_tells : (b : Bool) (s : Settings) (old new : List Item) → state_of s old ≡ states.Established
    → Stays s old new → Tells (if b then acts.Again else acts.None) s old new
request_tells false s old new e h = h
request_tells true s old new e h = record { before = e; same = h }

later_tells : (s : Settings) (items : List Item) (peer : Peer) (m : Heard) (more : ℕ)
    → peer.confirmed ≡ true → HasAgreed s items peer → message_count items ≡ suc (suc more) → (f : Fate)
    → later_fate m ≡ f
    → Tells
    (step f (phases.Agreed (record peer { hold_timer_since = if restarts_hold_timer m then greatest items else peer.hold_timer_since })) (if is_request m then acts.Again else acts.None)).1
    s items (Message m ∷ items)
later_tells s items peer m more b w k (Ends said) e =
    down (phases.Agreed peer) s items (Message m) said w (live_confirmed peer.confirmed) w.connected
    (later_fate_is s items peer m more w k ∙ e)
later_tells s items peer m more b w k GoesOn e =
    let alive : Peer = record peer { hold_timer_since = if restarts_hold_timer m then greatest items else peer.hold_timer_since } in
    request_tells (is_request m) s items (Message m ∷ items) (state_confirmed s items peer true b w)
    (same (phases.Agreed peer) (phases.Agreed alive) s items (Message m) w
    (subst (λ f. Stands (step f (phases.Agreed alive) (if is_request m then acts.Again else acts.None)).0 s (Message m ∷ items)) e (later_stands s items peer m more w b k))
    refl refl)

agreed_tells : (b : Bool) (s : Settings) (items : List Item) (peer : Peer) (m : Heard) → peer.confirmed ≡ b
    → HasAgreed s items peer → IsCount b (message_count items)
    → Tells (if b then later_step peer (greatest items) m else second_step peer (greatest items) m).1 s
    items (Message m ∷ items)
agreed_tells false s items peer m e w k = second_tells s items peer m e w k (second_fate m) refl
agreed_tells true s items peer m e w k = later_tells s items peer m k.0 e w k.1 (later_fate m) refl

message_tells : (phase : Phase) (s : Settings) (items : List Item) (m : Heard) → Stands phase s items
    → Tells (message_step phase s.peer_as (greatest items) m).1 s items (Message m ∷ items)
message_tells phases.Idle s items m h = same phases.Idle phases.Idle s items (Message m) h h refl refl
message_tells (phases.OpenSent since) s items m h =
    first_tells s items since m h (first_fate s.peer_as m) refl
message_tells (phases.Agreed peer) s items m h = agreed_tells peer.confirmed s items peer m refl h h.count
message_tells phases.Closing s items m h =
    same phases.Closing phases.Closing s items (Message m) h (message_stands phases.Closing s items m h) refl refl

pub message_hears : (old new : Session) (m : Heard) (act : Act)
    → ◌≡◌ {A = Phase × Act} (new.phase, act) (message_step old.phase old.settings.peer_as old.latest m)
    → new.latest ≡ old.latest → new.settings ≡ old.settings → RespondsTo old new (Message m) act
unfolding HasHeard
message_hears old new m act e l t s items h =
    let f : ◌≡◌ {A = Phase × Act} (new.phase, act) (message_step old.phase s.peer_as (greatest items) m) =
    e ∙ ap (λ (x : Settings). message_step old.phase x.peer_as old.latest m) h.settings_are
    ∙ ap (λ x. message_step old.phase s.peer_as x m) h.latest in
    record {
      heard = record {
        settings_are = t ∙ h.settings_are;
        latest = l ∙ h.latest;
        phase = subst (λ (x : Phase × Act). Stands x.0 s (Message m ∷ items)) (sym f)
            (message_stands old.phase s items m h.phase);
      };
      act_is = ap (λ (x : Phase × Act). x.1) f ∙ message_acts old.phase s items m h.phase;
      tells = subst (λ (x : Phase × Act). Tells x.1 s items (Message m ∷ items)) (sym f)
          (message_tells old.phase s items m h.phase);
    }

-- ---- without a session that lasts

still_phase : (phase : Phase) (peer_as now : ℕ) (m : Heard) → is_live (state_in phase) ≡ false
    → (message_step phase peer_as now m).0 ≡ phase
still_phase phases.Idle peer_as now m e = refl
still_phase (phases.OpenSent since) peer_as now m e = cc
still_phase (phases.Agreed peer) peer_as now m e =
    absurd (let f : true ≡ false = sym (live_confirmed peer.confirmed) ∙ e in cc)
still_phase phases.Closing peer_as now m e = refl

pub over_hears : (old new : Session) (m : Heard) (act : Act)
    → ◌≡◌ {A = Phase × Act} (new.phase, act) (message_step old.phase old.settings.peer_as old.latest m)
    → new.latest ≡ old.latest → new.settings ≡ old.settings → (s : Settings) (items : List Item)
    → HasHeard old s items → is_live (state_of s items) ≡ false → new ≡ old
unfolding HasHeard
over_hears old new m act e l t s items h v =
    let p : new.phase ≡ old.phase =
    ap (λ (x : Phase × Act). x.0) e
    ∙ still_phase old.phase old.settings.peer_as old.latest m
    (ap is_live (sym (state_is old.phase s items h.phase)) ∙ v) in
    λ i. record { settings = t i; latest = l i; phase = p i }

-- ---- a connection

pub came_hears : (session : Session) → session.phase ≡ phases.Idle
    → RespondsTo session (record session { phase = phases.OpenSent session.latest }) Came (acts.Say short.Open)
unfolding HasHeard
came_hears session e s items h = record {
  heard = record {
    settings_are = h.settings_are;
    latest = h.latest;
    phase = record { connected = refl; lasts = refl; count = refl; sent = refl; hold_timer = sym h.latest };
  };
  act_is = refl;
  tells = record { before = state_is session.phase s items h.phase ∙ ap state_in e; now = refl };
}
